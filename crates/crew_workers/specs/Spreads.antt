-- Numbers as places in a list, and values that are put there.
use Rattle.std.specs.Prelude.{◌≡◌, ◌≢◌, ℕ, ◌<◌, List, length, slice_index, slice_index_or}

-- no number stands twice
abbrev pub Apart : List ℕ → Type 0
Apart ps = (i j : ℕ) → i < length ps → j < length ps → slice_index ps i ≡ slice_index ps j → i ≡ j

-- each number is below n
abbrev pub AreBelow : ℕ → List ℕ → Type 0
AreBelow n ps = (j : ℕ) → j < length ps → slice_index ps j < n

-- the first n values were put at their positions
pub record Placed {A : Type 0} (positions : List ℕ) (values old new : List A) (n : ℕ) : Type 0 where
  pub many : length new ≡ length old
  pub here : (j : ℕ) (d : A) → j < n → slice_index_or new (slice_index positions j) d ≡ slice_index_or values j d
  pub others : (i : ℕ) (d : A) → ((j : ℕ) → j < n → slice_index positions j ≢ i) → slice_index_or new i d ≡ slice_index_or old i d
