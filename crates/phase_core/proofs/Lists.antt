-- Lists read by `get_elem?`, after a change at one place or an item more.
use Rattle.std.proofs.Common.{◌≡◌, ◌≢◌, ℕ, zero, suc, ◌<◌, ◌⊎◌, List, [], ◌∷◌, ◌++◌, length, get_or, take, set, sym, refl, ap, inl, inr, ⊎_elim, arith, Option, Some, None}
use Rattle.std.specs.Prelude.{slice_get}
use mathlib.Core.Option.{some, some-injective, some-ne-none}
use lib.ListN.{get_elem?}

module _ {A : Type 0} where
  pub at_set : (l : List A) (i j : ℕ) (a b : A) → get_elem? (set l i a) j ≡ some b → ((j ≡ i) × (a ≡ b)) ⊎ ((j ≢ i) × (get_elem? l j ≡ some b))
  at_set [] i j a b e = absurd (some-ne-none b (sym e))
  at_set (x ∷ xs) zero zero a b e = inl (refl, some-injective a b e)
  at_set (x ∷ xs) zero (suc j) a b e = inr ((λ h. omega arith), e)
  at_set (x ∷ xs) (suc i) zero a b e = inr ((λ h. omega arith), e)
  at_set (x ∷ xs) (suc i) (suc j) a b e = ⊎_elim (λ t. inl (ap suc t.0, t.1)) (λ t. let n = t.0 in inr ((λ h. n (omega arith)), t.1)) (at_set xs i j a b e)

  pub at_snoc : (l : List A) (a b : A) (j : ℕ) → get_elem? (l ++ a ∷ []) j ≡ some b → (get_elem? l j ≡ some b) ⊎ ((j ≡ length l) × (a ≡ b))
  at_snoc [] a b zero e = inr (refl, some-injective a b e)
  at_snoc [] a b (suc j) e = absurd (some-ne-none b (sym e))
  at_snoc (x ∷ xs) a b zero e = inl e
  at_snoc (x ∷ xs) a b (suc j) e = ⊎_elim inl (λ t. inr (ap suc t.0, t.1)) (at_snoc xs a b j e)

  pub at_below : (l : List A) (j : ℕ) (a : A) → get_elem? l j ≡ some a → j < length l
  at_below [] j a e = absurd (some-ne-none a (sym e))
  at_below (x ∷ xs) zero a e = omega arith
  at_below (x ∷ xs) (suc j) a e = omega (arith, at_below xs j a e)

  pub at_index : (l : List A) (i : ℕ) (d : A) → i < length l → get_elem? l i ≡ some (get_or l i d)
  at_index [] i d h = absurd (omega arith)
  at_index (x ∷ xs) zero d h = refl
  at_index (x ∷ xs) (suc i) d h = at_index xs i d (omega arith)

  pub set_again : (l : List A) (i : ℕ) (a : A) → get_elem? l i ≡ some a → set l i a ≡ l
  set_again [] i a e = refl
  set_again (x ∷ xs) zero a e = λ k. sym (some-injective x a e) k ∷ xs
  set_again (x ∷ xs) (suc i) a e = λ k. x ∷ set_again xs i a e k

  -- one item more
  pub take_next : (l : List A) (n : ℕ) (a : A) → get_elem? l n ≡ some a → take (suc n) l ≡ take n l ++ a ∷ []
  take_next [] n a e = absurd (some-ne-none a (sym e))
  take_next (x ∷ xs) zero a e = λ k. some-injective x a e k ∷ []
  take_next (x ∷ xs) (suc n) a e = λ k. x ∷ take_next xs n a e k

  pub at-get_or : (l : List A) (i : ℕ) (a d : A) → get_elem? l i ≡ some a → get_or l i d ≡ a
  at-get_or [] i a d e = absurd (some-ne-none a (sym e))
  at-get_or (x ∷ xs) zero a d e = some-injective x a e
  at-get_or (x ∷ xs) (suc i) a d e = at-get_or xs i a d e

  pub set_else : (l : List A) (i j : ℕ) (a : A) → j ≢ i → get_elem? (set l i a) j ≡ get_elem? l j
  set_else [] i j a n = refl
  set_else (x ∷ xs) zero zero a n = absurd (n refl)
  set_else (x ∷ xs) zero (suc j) a n = refl
  set_else (x ∷ xs) (suc i) zero a n = refl
  set_else (x ∷ xs) (suc i) (suc j) a n = set_else xs i j a (λ e. n (ap suc e))

  pub set-snoc : (l : List A) (i : ℕ) (a b : A) → i < length l → set (l ++ b ∷ []) i a ≡ set l i a ++ b ∷ []
  set-snoc [] i a b h = absurd (omega arith)
  set-snoc (x ∷ xs) zero a b h = refl
  set-snoc (x ∷ xs) (suc i) a b h = ap (λ l. x ∷ l) (set-snoc xs i a b (omega arith))

  -- where `slice_get` finds nothing, the place has the default
  pub default_at : (l : List A) (i : ℕ) (d : A) → None ≡ slice_get l i → d ≡ get_or l i d
  default_at [] i d e = refl
  default_at (x ∷ xs) zero d e = absurd (let q = e in cc)
  default_at (x ∷ xs) (suc i) d e = default_at xs i d e

  pub found_at : (l : List A) (i : ℕ) (a d : A) → Some a ≡ slice_get l i → a ≡ get_or l i d
  found_at [] i a d e = absurd (let q = e in cc)
  found_at (x ∷ xs) zero a d e = ap (λ (o : Option A). elim o [ Some y ↦ y | None ↦ a ]) e
  found_at (x ∷ xs) (suc i) a d e = found_at xs i a d e
