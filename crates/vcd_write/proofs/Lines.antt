-- Lines without a line feed, each ended by one.
use Rattle.std.proofs.Common.{◌≡◌, ℕ, Bool, true, false, cond, eqb, List, [], ◌∷◌, ◌++◌, refl, ap, ◌∙◌, append_assoc}
use Rattle.std.specs.Prelude.{All, flat_map}
use Rattle.std.proofs.lemmas.Bool.{false≢true, ne_eqb, cond-false}
use Rattle.std.proofs.lemmas.List.Elements.{All-head, All-tail}
use Rattle.vcd_write.specs.Texts.{ended}
use Rattle.vcd_write.specs.Reading.{with_byte, lines_of, is_plain}

pub plain_cons : (x : ℕ) (xs : List ℕ) → (x ≡ 10 → ⊥) → is_plain xs ≡ true → is_plain (x ∷ xs) ≡ true
plain_cons x xs ne h = cond-false (eqb x 10) false (is_plain xs) (ne_eqb x 10 ne) ∙ h

pub plain_append : (xs ys : List ℕ) → is_plain xs ≡ true → is_plain ys ≡ true → is_plain (xs ++ ys) ≡ true
plain_append [] ys a b = b
plain_append (x ∷ xs) ys a b = by (λ e. plain_append xs ys e b) (eqb x 10) a where
  by : (is_plain xs ≡ true → is_plain (xs ++ ys) ≡ true) → (z : Bool) → cond z false (is_plain xs) ≡ true → cond z false (is_plain (xs ++ ys)) ≡ true
  by on true e = absurd (false≢true e)
  by on false e = on e

front : (line rest : List ℕ) → is_plain line ≡ true → lines_of (line ++ 10 ∷ rest) ≡ line ∷ lines_of rest
front [] rest h = refl
front (b ∷ bs) rest h = by (front bs rest) (eqb b 10) h where
  by : (is_plain bs ≡ true → lines_of (bs ++ 10 ∷ rest) ≡ bs ∷ lines_of rest) → (z : Bool) → cond z false (is_plain bs) ≡ true
      → cond z ([] ∷ lines_of (bs ++ 10 ∷ rest)) (with_byte b (lines_of (bs ++ 10 ∷ rest))) ≡ (b ∷ bs) ∷ lines_of rest
  by on true e = absurd (false≢true e)
  by on false e = ap (with_byte b) (on e)

pub lines_are : (lines : List (List ℕ)) → All (λ l. is_plain l ≡ true) lines → lines_of (flat_map ended lines) ≡ lines
lines_are [] h = refl
lines_are (l ∷ ls) h =
    ap lines_of (append_assoc l (10 ∷ []) (flat_map ended ls))
    ∙ (front l (flat_map ended ls) (All-head (λ (l : List ℕ). is_plain l ≡ true) l ls h) ∙ ap (λ s. l ∷ s) (lines_are ls (All-tail (λ (l : List ℕ). is_plain l ≡ true) l ls h)))
