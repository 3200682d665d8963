-- How many numbers are in a list.
use Rattle.std.proofs.Common.{◌≡◌, ◌==◌, ℕ, zero, suc, ◌+◌, ◌*◌, ◌≤◌, Bool, true, false, ◌||◌, List, [], ◌∷◌, length, flat_map, if◌then◌else◌, refl, sym, ap, ◌∙◌, arith, ⊎_elim, length-append, Contains}
use Rattle.std.proofs.lemmas.Bool.{cases_eq, cases_Bool, false≢true}
use Rattle.flat_code.specs.Fine.{Known, among, nothing}
use Rattle.code_place.specs.Live.{how_many}
use Rattle.code_place.proofs.Counting.{many_le, many_none}
use Rattle.code_place.proofs.Moving.{left, right, among_append, numbers_same, same_number}
use Rattle.cone_cutter.proofs.Lists.{none_in, cons_cases}

one_or : (a b : Bool) → ◌≤◌ (if a || b then 1 else 0) ((if a then 1 else 0) + (if b then 1 else 0))
one_or true true = omega arith
one_or true false = omega arith
one_or false true = omega arith
one_or false false = omega arith

many_or : (n : ℕ) (A B : Known) → how_many n (λ k. A k || B k) ≤ how_many n A + how_many n B
many_or zero A B = omega arith
many_or (suc n) A B = let rest = many_or n A B in let here = one_or (A n) (B n) in omega (arith, rest, here)

one_most : (a : Bool) → ◌≤◌ (if a then 1 else 0) 1
one_most true = omega arith
one_most false = omega arith

not_one : (a : Bool) → a ≡ false → ◌≡◌ {A = ℕ} (if a then 1 else 0) 0
not_one true e = absurd (false≢true (sym e))
not_one false e = refl

other : (a b : ℕ) → (a ≡ b → ⊥) → (a == b) ≡ false
other a b ne = ⊎_elim (λ e. absurd (ne (numbers_same a b e))) (λ e. e) (cases_Bool (a == b))

none_is : (n x : ℕ) → n ≤ x → how_many n (λ k. k == x) ≡ 0
none_is zero x le = refl
none_is (suc n) x le =
    let rest = none_is n x (omega (arith, le)) in
    let here = not_one (n == x) (other n x (λ e. omega (arith, le, e))) in
    omega (arith, rest, here)

one_is : (n x : ℕ) → how_many n (λ k. k == x) ≤ 1
one_is zero x = omega arith
one_is (suc n) x = ⊎_elim
    (λ e. let rest = none_is n x (omega (arith, e)) in let here = one_most (n == x) in omega (arith, rest, here))
    (λ ne. let rest = one_is n x in let here = not_one (n == x) (other n x ne) in omega (arith, rest, here))
    (cases_eq n x)

pub many_among : (n : ℕ) (xs : List ℕ) → how_many n (among xs) ≤ length xs
many_among n [] = let none = many_none n in let same = many_le n (among []) nothing (λ k e. e) in omega (arith, none, same)
many_among n (x ∷ xs) =
    let both = many_or n (λ k. k == x) (among xs) in
    let first = one_is n x in
    let rest = many_among n xs in
    let same = many_le n (among (x ∷ xs)) (λ k. (k == x) || among xs k) (λ k e. e) in
    omega (arith, both, first, rest, same)

-- Slots of some of these leaves

-- they are at most two for each leaf
pub flat_two : (locations : ℕ → List ℕ) → ((x : ℕ) → length (locations x) ≤ 2) → (xs : List ℕ) → length (flat_map locations xs) ≤ 2 * length xs
flat_two locations two [] = omega arith
flat_two locations two (x ∷ xs) =
    let first = two x in
    let rest = flat_two locations two xs in
    let all = length-append (locations x) (flat_map locations xs) in
    omega (arith, first, rest, all)

pub among_locations : (locations : ℕ → List ℕ) (xs : List ℕ) (x k : ℕ) → Contains xs x → among (locations x) k ≡ true → among (flat_map locations xs) k ≡ true
among_locations locations [] x k c e = absurd (none_in x c)
among_locations locations (y ∷ xs) x k c e = among_append (locations y) (flat_map locations xs) k ∙ ⊎_elim
    (λ s. left (among (locations y) k) (among (flat_map locations xs) k) (ap (λ z. among (locations z) k) s ∙ e))
    (λ d. right (among (locations y) k) (among (flat_map locations xs) k) (among_locations locations xs x k d e))
    (cons_cases y xs x c)

pub among_contained : (xs : List ℕ) (x : ℕ) → Contains xs x → among xs x ≡ true
among_contained [] x c = absurd (none_in x c)
among_contained (y ∷ xs) x c = ⊎_elim
    (λ s. left (x == y) (among xs x) (ap (λ z. x == z) s ∙ same_number x))
    (λ d. right (x == y) (among xs x) (among_contained xs x d))
    (cons_cases y xs x c)
