-- Texts in the order of their first use.
use Rattle.std.specs.Prelude.{◌≡◌, ℕ, List, [], ◌∷◌, ◌++◌, slice_get, Some, Contains}

-- The text has this number: it is there already, or is added at the end.
pub record AddsName (old new : List (List ℕ)) (text : List ℕ) (id : ℕ) : Type 0 where
  pub known : Contains old text → new ≡ old
  pub added : (Contains old text → ⊥) → new ≡ old ++ text ∷ []
  pub number : slice_get new id ≡ Some text

-- no text has two numbers
pub record IsDistinct (names : List (List ℕ)) : Type 0 where
  pub same : (i j : ℕ) (text : List ℕ) → slice_get names i ≡ Some text → slice_get names j ≡ Some text → i ≡ j
