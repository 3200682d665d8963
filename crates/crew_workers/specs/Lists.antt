-- A loop that goes through a list and changes item by item.
use Rattle.std.specs.Prelude.{◌≡◌, ℕ, ◌<◌, ◌≤◌, List, length, slice_index_or}

-- the first i items were changed as P says, and the others are as before
pub record Through {A : Type 0} (P : ℕ → A → A → Type 0) (old new : List A) (i : ℕ) : Type 0 where
  pub many : length new ≡ length old
  pub done : (k : ℕ) (d : A) → k < i → k < length old → P k (slice_index_or old k d) (slice_index_or new k d)
  pub left : (k : ℕ) (d : A) → i ≤ k → slice_index_or new k d ≡ slice_index_or old k d
