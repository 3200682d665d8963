-- Counts of bits, step by step.
use Rattle.std.proofs.Common.{◌≡◌, ℕ, zero, suc, ◌+◌, ◌*◌, ◌^◌, ◌%◌, ◌<◌, ◌≤◌, ◌==◌, min, cond, List, [], ◌∷◌, length, take, slice_index, slice_set, refl, sym, subst, ap, ◌∙◌, arith}
use Rattle.std.specs.Int.{bit_at}
use Rattle.std.specs.Int.Bits.{bit_xor, bit_and}
use Rattle.std.proofs.Math.Nat.{pow-succ'}
use Rattle.std.proofs.lemmas.Nat.Bits.{bit_at_xor, bit_at_and, bit_at-lt, bit_at-zero}
use Rattle.cone_cutter.specs.Loads.{has_bit}
use Rattle.cone_cutter.specs.Tallies.{tallied}

-- one digit

digit_sum : (q a b t u : ℕ) → a < 2 → b < 2 → t + q * a ≡ u + q * ((a + b) % 2) → t + q * 2 * min a b ≡ u + q * b
digit_sum q zero zero t u la lb e = omega (arith, e)
digit_sum q zero (suc zero) t u la lb e = omega (arith, e)
digit_sum q zero (suc (suc b)) t u la lb e = absurd (omega arith)
digit_sum q (suc zero) zero t u la lb e = omega (arith, e)
digit_sum q (suc zero) (suc zero) t u la lb e = omega (arith, e)
digit_sum q (suc zero) (suc (suc b)) t u la lb e = absurd (omega arith)
digit_sum q (suc (suc a)) b t u la lb e = absurd (omega arith)

pow_more : (d : ℕ) → 2 ^ suc d ≡ 2 ^ d * 2
pow_more d = let e = pow-succ' 2 d in omega (arith, e)

-- another plane in the place of one
tallied_set : (l : List ℕ) (i w p : ℕ) → i < length l → tallied (slice_set l i w) p + 2 ^ i * bit_at (slice_index l i) p ≡ tallied l p + 2 ^ i * bit_at w p
tallied_set [] i w p lt = absurd (omega arith)
tallied_set (x ∷ l) zero w p lt = omega arith
tallied_set (x ∷ l) (suc i) w p lt =
    let rest = tallied_set l i w p (omega arith) in
    let old = ap (λ q. q * bit_at (slice_index l i) p) (pow_more i) in
    let new = ap (λ q. q * bit_at w p) (pow_more i) in
    omega (arith, rest, old, new)

-- What is counted, and what is carried to a digit.
abbrev pub Carries : List ℕ → ℕ → List ℕ → ℕ → ℕ → Type 0
Carries old mask now digit carry = (p : ℕ) → tallied now p + 2 ^ digit * bit_at carry p ≡ tallied old p + bit_at mask p

pub carries_begin : (old : List ℕ) (mask : ℕ) → Carries old mask old 0 mask
carries_begin old mask p = omega arith

pub carries_more : (old : List ℕ) (mask : ℕ) (now : List ℕ) (digit carry plane : ℕ) → Carries old mask now digit carry → digit < length now → plane ≡ slice_index now digit
    → Carries old mask (slice_set now digit (bit_xor plane carry)) (digit + 1) (bit_and carry plane)
carries_more old mask now digit carry plane h lt is p =
    let a = bit_at plane p in
    let b = bit_at carry p in
    let set = tallied_set now digit (bit_xor plane carry) p lt in
    let here : tallied (slice_set now digit (bit_xor plane carry)) p + 2 ^ digit * bit_at plane p ≡ tallied now p + 2 ^ digit * ((bit_at plane p + bit_at carry p) % 2) =
    ap (λ x. tallied (slice_set now digit (bit_xor plane carry)) p + 2 ^ digit * bit_at x p) is ∙ (set ∙ ap (λ n. tallied now p + 2 ^ digit * n) (bit_at_xor plane carry p)) in
    let sum = digit_sum (2 ^ digit) a b (tallied (slice_set now digit (bit_xor plane carry)) p) (tallied now p) (bit_at-lt plane p) (bit_at-lt carry p) here in
    let swap : min (bit_at plane p) (bit_at carry p) ≡ bit_at (bit_and carry plane) p = omega (arith, bit_at_and carry plane p) in
    let up : 2 ^ (digit + 1) ≡ 2 ^ digit * 2 = subst (λ n. 2 ^ n ≡ 2 ^ digit * 2) (omega arith) (pow_more digit) in
    let carried : 2 ^ (digit + 1) * bit_at (bit_and carry plane) p ≡ 2 ^ digit * 2 * min (bit_at plane p) (bit_at carry p) =
    ap (λ q. q * bit_at (bit_and carry plane) p) up ∙ ap (λ n. 2 ^ digit * 2 * n) (sym swap) in
    omega (arith, carried, sum, h p)

pub carries_none : (old : List ℕ) (mask : ℕ) (now : List ℕ) (digit carry : ℕ) → Carries old mask now digit carry → carry ≡ 0 → (p : ℕ) → tallied now p ≡ tallied old p + bit_at mask p
carries_none old mask now digit carry h e p =
    let none : 2 ^ digit * bit_at carry p ≡ 2 ^ digit * 0 = ap (λ n. 2 ^ digit * n) (ap (λ c. bit_at c p) e ∙ bit_at-zero p) in
    omega (arith, none, h p)

at_bit : (q b : ℕ) → b < 2 → q * b < q → q * b ≡ 0
at_bit q zero lt less = omega arith
at_bit q (suc zero) lt less = absurd (omega arith)
at_bit q (suc (suc b)) lt less = absurd (omega arith)

pub carries_past : (old : List ℕ) (mask : ℕ) (now : List ℕ) (digit carry : ℕ) → Carries old mask now digit carry → ((p : ℕ) → tallied old p + 1 < 2 ^ digit) → (p : ℕ) → tallied now p ≡ tallied old p + bit_at mask p
carries_past old mask now digit carry h fits p =
    let none = at_bit (2 ^ digit) (bit_at carry p) (bit_at-lt carry p) (omega (arith, h p, fits p, bit_at-lt mask p)) in
    omega (arith, none, h p)

-- planes in turn

pub tallied_zero : (planes : List ℕ) → ((i : ℕ) → slice_index planes i ≡ 0) → (p : ℕ) → tallied planes p ≡ 0
tallied_zero [] h p = refl
tallied_zero (x ∷ planes) h p =
    let here : bit_at x p ≡ 0 = ap (λ n. bit_at n p) (h 0) ∙ bit_at-zero p in
    omega (arith, here, tallied_zero planes (λ i. h (suc i)) p)

pub tallied_more : (l : List ℕ) (i p : ℕ) → i < length l → tallied (take (suc i) l) p ≡ tallied (take i l) p + 2 ^ i * bit_at (slice_index l i) p
tallied_more [] i p lt = absurd (omega arith)
tallied_more (x ∷ l) zero p lt = omega arith
tallied_more (x ∷ l) (suc i) p lt =
    let rest = tallied_more l i p (omega arith) in
    let up = ap (λ q. q * bit_at (slice_index l i) p) (pow_more i) in
    omega (arith, rest, up)

pub tallied_part : (l : List ℕ) (i p : ℕ) → tallied (take i l) p ≤ tallied l p
tallied_part [] zero p = omega arith
tallied_part [] (suc i) p = omega arith
tallied_part (x ∷ l) zero p = omega arith
tallied_part (x ∷ l) (suc i) p = omega (arith, tallied_part l i p)

-- a bit as a number
pub bit_weight : (q mask p : ℕ) → cond {A = ℕ} (has_bit mask p) q 0 ≡ q * bit_at mask p
bit_weight q mask p = one (bit_at mask p) (bit_at-lt mask p)
  where
    one : (b : ℕ) → b < 2 → cond {A = ℕ} (b == 1) q 0 ≡ q * b
    one zero lt = omega arith
    one (suc zero) lt = omega arith
    one (suc (suc b)) lt = absurd (omega arith)
