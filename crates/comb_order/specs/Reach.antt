-- What is met from a vertex (mark 0), and ranks.
use Rattle.std.specs.Prelude.{◌≡◌, ℕ, ◌+◌, ◌*◌, ◌<◌, ◌≤◌, List, length, slice_index, sum_by, ◌⊎◌}
use Rattle.comb_order.specs.Graph.{Graph, Reads, Through}
use Rattle.comb_order.specs.Search.{Stands}

-- no vertex reads one of a higher rank
abbrev pub NeverRises : Graph → List ℕ → Type 0
NeverRises g ranks = (a b : ℕ) → Reads g a b → slice_index ranks b ≤ slice_index ranks a

-- these vertices were met, and those that were not wait
pub record Spreads (row old before new after : List ℕ) : Type 0 where
  pub long : length new ≡ length old
  pub kept : (v : ℕ) → slice_index old v ≡ 0 → slice_index new v ≡ 0
  pub met : (k : ℕ) → k < length row → slice_index new (slice_index row k) ≡ 0
  pub only : (v : ℕ) → slice_index new v ≡ 0 → (slice_index old v ≡ 0) ⊎ (Stands row v × Stands after v)
  pub stays : (v : ℕ) → Stands before v → Stands after v
  pub waits_only : (v : ℕ) → Stands after v → Stands before v ⊎ Stands row v
  pub count : 2 * sum_by (λ x. x) new + length after ≤ 2 * sum_by (λ x. x) old + length before

-- the vertices that are met are read from x; what a vertex reads is met, unless it waits
pub record Reaching (g : Graph) (x : ℕ) (marks waiting : List ℕ) : Type 0 where
  pub long : length marks ≡ length g
  pub from : (v : ℕ) → v < length g → slice_index marks v ≡ 0 → Through g x v
  pub waits : (v : ℕ) → Stands waiting v → (v < length g) × ((v ≡ x) ⊎ Through g x v)
  pub closed : (v : ℕ) → v < length g → (v ≡ x) ⊎ (slice_index marks v ≡ 0) → Stands waiting v ⊎ ((w : ℕ) → Reads g v w → slice_index marks w ≡ 0)
