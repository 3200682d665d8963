-- A search that goes on: vertices in the sequence are done (0), those on the path are open (1), others are new (2).
use Rattle.std.specs.Prelude.{◌≡◌, ◌≢◌, ℕ, ◌+◌, ◌<◌, ◌≤◌, List, length, slice_get, slice_index, Some, map}
use Rattle.std.specs.declared.alloc.Global.{Global}
use Rattle.std.specs.declared.vec.Vec.{Vec}
use Rattle.comb_order.specs.Graph.{Graph, Reads, InOrder}

abbrev pub Stands : List ℕ → ℕ → Type 0
Stands s v = (k : ℕ) × (k < length s) × (slice_index s k ≡ v)

pub record Searching (g : Graph) (marks left path s : List ℕ) : Type 0 where
  pub marks_long : length marks ≡ length g
  pub left_long : length left ≡ length g
  pub in_order : InOrder g s
  -- marks
  pub done : (v : ℕ) → v < length g → slice_index marks v ≡ 0 → Stands s v
  pub open_ones : (v : ℕ) → v < length g → slice_index marks v ≡ 1 → Stands path v
  pub small : (v : ℕ) → slice_index marks v ≤ 2
  pub of_sequence : (k : ℕ) → k < length s → slice_index marks (slice_index s k) ≡ 0
  pub of_path : (k : ℕ) → k < length path → slice_index marks (slice_index path k) ≡ 1
  -- the path goes by what is read, and meets no vertex twice
  pub path_within : (k : ℕ) → k < length path → slice_index path k < length g
  pub path_reads : (k : ℕ) → k + 1 < length path → Reads g (slice_index path k) (slice_index path (k + 1))
  pub path_once : (j k : ℕ) → j < k → k < length path → slice_index path j ≢ slice_index path k
  -- of what a vertex reads, what isn't left stands in the sequence
  pub left_few : (v : ℕ) (row : Vec ℕ Global) → slice_get g v ≡ Some row → slice_index left v ≤ length row.items
  pub rest : (v : ℕ) (row : Vec ℕ Global) → slice_get g v ≡ Some row → (j : ℕ) → slice_index left v ≤ j → j < length row.items → Stands s (slice_index row.items j)

-- no mark rose
abbrev pub Lower : List ℕ → List ℕ → Type 0
Lower old new = (v : ℕ) → slice_index new v ≤ slice_index old v

-- how much each vertex reads
abbrev pub HasLengths : Graph → List ℕ → Type 0
HasLengths g left = left ≡ map (λ row. length row.items) g
