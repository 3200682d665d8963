-- Identifiers of two variables differ.
use Rattle.std.proofs.Common.{◌≡◌, ℕ, zero, suc, ◌+◌, ◌<◌, List, [], ◌∷◌, map, get_or, refl, sym, ap, ap₂, arith}
use Rattle.std.specs.Prelude.{true}
use Rattle.std.specs.Int.Digits.{digits_of}
use Rattle.std.proofs.lemmas.Int.Digits.{first_digits_of, same_from_digits_of}
use Rattle.vcd_write.specs.Texts.{id_of}
use Rattle.vcd_write.specs.Reading.{is_plain}
use Rattle.vcd_write.proofs.Lines.{plain_cons}

head_same : (x y : ℕ) (xs ys : List ℕ) → x ∷ xs ≡ y ∷ ys → x ≡ y
head_same x y xs ys e = ap (λ l. get_or l 0 0) e

add_same : (x y : ℕ) → 33 + x ≡ 33 + y → x ≡ y
add_same x y e = omega (arith, e)

shifted_same : (xs ys : List ℕ) → map (λ d. 33 + d) xs ≡ map (λ d. 33 + d) ys → xs ≡ ys
shifted_same [] [] e = refl
shifted_same [] (y ∷ ys) e = absurd cc
shifted_same (x ∷ xs) [] e = absurd cc
shifted_same (x ∷ xs) (y ∷ ys) e = ap₂ (λ z zs. z ∷ zs) (add_same x y (head_same (33 + x) (33 + y) _ _ e)) (shifted_same xs ys cc)

-- the digits of a number above 0 aren't those of 0's identifier
not_zero : (ds : List ℕ) → 0 < get_or ds 0 0 → 33 ∷ [] ≡ map (λ d. 33 + d) ds → ⊥
not_zero [] lt e = omega (arith, lt)
not_zero (d ∷ ds) lt e = let same : 33 ≡ 33 + d = head_same 33 (33 + d) _ _ e in omega (arith, lt, same)

pub ids_apart : (i j : ℕ) → id_of i ≡ id_of j → i ≡ j
ids_apart zero zero e = refl
ids_apart zero (suc j) e = absurd (not_zero (digits_of 94 (suc j)) (first_digits_of 94 (suc j) (omega arith) (omega arith)) e)
ids_apart (suc i) zero e = absurd (not_zero (digits_of 94 (suc i)) (first_digits_of 94 (suc i) (omega arith) (omega arith)) (sym e))
ids_apart (suc i) (suc j) e = same_from_digits_of 94 (suc i) (suc j) (omega arith) (shifted_same (digits_of 94 (suc i)) (digits_of 94 (suc j)) e)

shifted_plain : (ds : List ℕ) → is_plain (map (λ d. 33 + d) ds) ≡ true
shifted_plain [] = refl
shifted_plain (d ∷ ds) = plain_cons (33 + d) (map (λ d. 33 + d) ds) (λ e. omega (arith, e)) (shifted_plain ds)

pub id_plain : (i : ℕ) → is_plain (id_of i) ≡ true
id_plain zero = refl
id_plain (suc i) = shifted_plain (digits_of 94 (suc i))
