-- Graphs, as rows of numbers, and what is kept of an order.
use Rattle.std.specs.Prelude.{◌≡◌, ◌≢◌, ℕ, ◌<◌, List, length, map, slice_get, slice_index, Some}
use Rattle.comb_order.specs.Graph.{Graph}
use Rattle.std.specs.declared.alloc.Global.{Global}
use Rattle.std.specs.declared.vec.Vec.{Vec}
use Rattle.place_text.specs.declared.place.Place.{Place}
use Rattle.ground_net.specs.declared.net.Leaf.{Leaf}

-- the rows of a graph
abbrev pub rows_of : Graph → List (List ℕ)
rows_of = map (λ (row : Vec ℕ Global). row.items)

abbrev pub IsOnce : List ℕ → Type 0
IsOnce s = (j k : ℕ) → j < k → k < length s → slice_index s j ≢ slice_index s k

-- where the number that stands at k stood, and that those before it which were kept stand before k
pub record StoodAt (is : ℕ → Type 0) (s kept : List ℕ) (k : ℕ) : Type 0 where
  pub at : ℕ
  pub inside : at < length s
  pub same : slice_index s at ≡ slice_index kept k
  pub before : (j : ℕ) → j < at → is (slice_index s j) → (m : ℕ) × (m < k) × (slice_index kept m ≡ slice_index s j)

-- those of the numbers of which this is true, in the same order
pub record Keeps (is : ℕ → Type 0) (s kept : List ℕ) : Type 0 where
  pub only : (k : ℕ) → k < length kept → is (slice_index kept k)
  pub stood : (k : ℕ) → k < length kept → StoodAt is s kept k
  pub all : (i : ℕ) → i < length s → is (slice_index s i) → (k : ℕ) × (k < length kept) × (slice_index kept k ≡ slice_index s i)
  pub once : IsOnce s → IsOnce kept

-- the leaf of this number has this place, that of its component's name
pub record HasPlace (leaves : List Leaf) (x : ℕ) (place : Place) : Type 0 where
  pub leaf : Leaf
  pub there : slice_get leaves x ≡ Some leaf
  pub is : leaf.place ≡ place
