-- How long the text is at most.
use Rattle.std.proofs.Common.{◌≡◌, ℕ, zero, suc, ◌+◌, ◌-◌, ◌*◌, ◌<◌, ◌≤◌, List, [], ◌∷◌, ◌++◌, length, refl, arith, length-append}
use Rattle.std.specs.Prelude.{codes, decimal}
use Rattle.std.specs.List.{flat_map, range_with_len}
use Rattle.std.proofs.lemmas.Fmt.{length-decimal-le}
use Rattle.circuit_make.specs.Rings.{before, head_lines, register_line, connect_line, sum_line, last_lines, ring_text}

-- a number of four digits
short_number : (n : ℕ) → n < 10000 → length (decimal n) ≤ 4
short_number n lt = length-decimal-le 4 n (omega arith) (omega arith) (omega arith)

-- a text, a number and a text
two : (a b : List ℕ) (k n m : ℕ) → length a ≡ k → length b ≡ m → n < 10000 → length (a ++ decimal n ++ b) ≤ k + 4 + m
two a b k n m p q lt = let d = short_number n lt in grind (arith, length-append, d)

-- lines of at most 64 bytes each
lines_short : (f : ℕ → List ℕ) (a n : ℕ) → ((i : ℕ) → i < a + n → length (f i) ≤ 64) → length (flat_map f (range_with_len a n)) ≤ 64 * n
lines_short f a zero h = omega arith
lines_short f a (suc n) h =
    let here = h a (omega arith) in
    let rest = lines_short f (a + 1) n (λ i lt. h i (omega arith)) in
    let all = length-append (f a) (flat_map f (range_with_len (a + 1) n)) in
    omega (arith, here, rest, all)

before_less : (n i : ℕ) → n ≤ 4096 → i < n → before n i < 10000
before_less n i few lt = grind arith

register_short : (i : ℕ) → i < 10000 → length (register_line i) ≤ 64
register_short i lt = let l = two (codes "    reg r") (codes " : UInt<32>, clock\n") 9 i 19 refl refl lt in omega arith

connect_short : (n i : ℕ) → n ≤ 4096 → i < n → length (connect_line n i) ≤ 64
connect_short n i few lt =
    let d = short_number i (omega arith) in
    let e = short_number (before n i) (before_less n i few lt) in
    grind (arith, length-append, d, e)

sum_short : (i : ℕ) → i < 10000 → length (sum_line i) ≤ 64
sum_short i lt =
    let d = short_number i lt in
    let e = short_number (i - 1) (omega arith) in
    grind (arith, length-append, d, e)

last_short : (n cycles : ℕ) → n ≤ 4096 → cycles ≤ 4096 → length (last_lines n cycles) ≤ 64
last_short n cycles few cut =
    let d = short_number cycles (omega arith) in
    let e = short_number (n - 1) (omega arith) in
    grind (arith, length-append, d, e)

pub ring_short : (n cycles : ℕ) → 1 ≤ n → n ≤ 4096 → cycles ≤ 4096 → length (ring_text n cycles) ≤ 1048576
ring_short n cycles some few cut =
    let a = lines_short register_line 0 n (λ i lt. register_short i (omega arith)) in
    let b = lines_short (connect_line n) 0 n (λ i lt. connect_short n i few (omega arith)) in
    let d = lines_short sum_line 1 (n - 1) (λ i lt. sum_short i (omega arith)) in
    let e = last_short n cycles few cut in
    grind (arith, length-append, a, b, d, e)
