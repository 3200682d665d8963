-- Lists in which nothing stands twice.
use Rattle.std.proofs.Common.{◌≡◌, ℕ, zero, suc, List, [], ◌∷◌, ◌++◌, map, take, Some, slice_get, refl, sym, subst, arith, ⊎_elim}
use Rattle.std.specs.Prelude.{Contains}
use Rattle.std.proofs.lemmas.List.Elements.{Contains-append_cases}
use Rattle.fir_meaning.proofs.Tracking.{none_some}
use Rattle.fir_meaning.proofs.Ports.{one_later, from_map}
use Rattle.drive_check.proofs.Telling.{get_contains, contains_get}
use Rattle.plain_cycle.specs.Apart.{AreApart}

pub apart_append : {A : Type 0} (xs ys : List A) → AreApart xs → AreApart ys → ((x : A) → Contains xs x → Contains ys x → ⊥) → AreApart (xs ++ ys)
apart_append [] ys a b differ = b
apart_append (x ∷ xs) ys a b differ = (
  λ c. ⊎_elim (λ l. a.0 l) (λ r. differ x (0, omega arith, refl) r) (Contains-append_cases xs ys x c),
  apart_append xs ys a.1 b (λ y l r. differ y (one_later x xs y l) r),
)

-- an item isn't among those before it
pub apart_taken : {A : Type 0} (xs : List A) (k : ℕ) (x : A) → AreApart xs → slice_get xs k ≡ Some x → Contains (take k xs) x → ⊥
apart_taken [] k x a e c = none_some e
apart_taken (y ∷ xs) zero x a e (j, below, is) = absurd (omega (arith, below))
apart_taken (y ∷ xs) (suc k) x a e (zero, below, is) = a.0 (subst (λ z. Contains xs z) (sym is) (get_contains xs k x e))
apart_taken (y ∷ xs) (suc k) x a e (suc j, below, is) = apart_taken xs k x a.1 e (j, omega (arith, below), is)

-- items at two places have different images
pub apart_by_places : {A B : Type 0} (f : A → B) (xs : List A) → ((j k : ℕ) (x y : A) → slice_get xs j ≡ Some x → slice_get xs k ≡ Some y → f x ≡ f y → j ≡ k) → AreApart (map f xs)
apart_by_places f [] h = tt
apart_by_places f (x ∷ xs) h = (
  λ c. let from = from_map f xs (f x) c in
      let at = contains_get xs from.0 from.1 in
      let same = h 0 (suc at.0) x from.0 refl at.1 (sym from.2) in
      absurd (omega (arith, same)),
  apart_by_places f xs (λ j k y z p q e. let same = h (suc j) (suc k) y z p q e in omega (arith, same)),
)

-- where images are apart, so are those from which they can be told
pub apart_finer : {A B C : Type 0} (f : A → B) (g : A → C) (xs : List A) → ((x y : A) → g x ≡ g y → f x ≡ f y) → AreApart (map f xs) → AreApart (map g xs)
apart_finer f g [] h a = tt
apart_finer f g (x ∷ xs) h a = (
  λ c. let from = from_map g xs (g x) c in
      a.0 (subst (λ b. Contains (map f xs) b) (h from.0 x from.2) (Rattle.fir_meaning.proofs.Tracking.Contains-map f xs from.0 from.1)),
  apart_finer f g xs h a.1,
)
