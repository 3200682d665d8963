-- Walks of cones. A stamp stands for each leaf: the number of the walk in which it was met last.
use Rattle.std.specs.Prelude.{◌≡◌, ◌≢◌, ◌⊎◌, ℕ, ◌+◌, ◌<◌, ◌≤◌, ◌==◌, not, List, ◌++◌, length, slice_index, count_by, Contains}
use Rattle.cone_cutter.specs.Cuts.{Lists, GoesFirst}
use Rattle.cone_cutter.specs.declared.rows.NetRows.{NetRows}
use Rattle.cone_cutter.specs.Rows.{row_at, told, reads_in, Met}

-- each once
abbrev pub IsOnce : List ℕ → Type 0
IsOnce s = (j k : ℕ) → j < k → k < length s → slice_index s j ≢ slice_index s k

-- how many leaves don't have this stamp
abbrev pub unstamped : ℕ → List ℕ → ℕ
unstamped stamp stamps = count_by (λ s. not (s == stamp)) stamps

-- Those of a row that weren't met are added, and get the stamp.
pub record Meets (row : List ℕ) (stamp : ℕ) (old before new after : List ℕ) : Type 0 where
  pub more : List ℕ
  pub added : after ≡ before ++ more
  pub long : length new ≡ length old
  pub fresh : (v : ℕ) → Contains more v → Contains row v × (slice_index old v ≢ stamp) × (v < length old)
  pub met : (v : ℕ) → Contains row v → slice_index new v ≡ stamp
  pub stamped : (v : ℕ) → Contains more v → slice_index new v ≡ stamp
  pub others : (v : ℕ) → (slice_index new v ≡ slice_index old v) ⊎ Contains more v
  pub once : IsOnce more
  pub room : length more + unstamped stamp new ≡ unstamped stamp old

-- A walk that goes on: what those before a place read was met.
pub record Walking (reads : List (List ℕ)) (roots : List ℕ) (stamp place : ℕ) (old stamps found : List ℕ) : Type 0 where
  pub long : length stamps ≡ length old
  pub here : (v : ℕ) → Contains found v → (slice_index stamps v ≡ stamp) × (v < length stamps) × Met reads roots v
  pub back : (v : ℕ) → slice_index stamps v ≡ stamp → Contains found v
  pub others : (v : ℕ) → (slice_index stamps v ≡ slice_index old v) ⊎ Contains found v
  pub once : IsOnce found
  pub roots_met : (v : ℕ) → Contains roots v → Contains found v
  pub closed : (k : ℕ) → k < place → (w : ℕ) → Contains (row_at reads (slice_index found k)) w → Contains found w
  pub behind : place ≤ length found
  pub room : length found + unstamped stamp stamps ≡ length stamps

-- What was found is all that is met from the roots, and got the stamp.
pub record Walked (reads : List (List ℕ)) (roots : List ℕ) (stamp : ℕ) (old new found : List ℕ) : Type 0 where
  pub listed : Lists (Met reads roots) found
  pub long : length new ≡ length old
  pub few : length found ≤ length old
  pub within : (v : ℕ) → Contains found v → v < length old
  pub here : (v : ℕ) → Contains found v → slice_index new v ≡ stamp
  pub others : (v : ℕ) → (slice_index new v ≡ slice_index old v) ⊎ Contains found v

-- What was found is the cone of these roots: the assignments that are met. No number has a later stamp.
pub record FindsCone (rows : NetRows) (roots : List ℕ) (stamp : ℕ) (old new found : List ℕ) : Type 0 where
  pub listed : Lists (Met (reads_in rows) (told rows.leaves rows.reads.items roots)) found
  pub within : (v : ℕ) → Contains found v → v < rows.leaves
  pub few : length found ≤ rows.leaves
  pub long : length new ≡ length old
  pub early : (v : ℕ) → slice_index new v ≤ stamp

-- The sinks whose cones have at least this size, in the order in which they are placed.
pub record AreRanked (sizes : List ℕ) (size : ℕ) (order : List ℕ) : Type 0 where
  pub only : (k : ℕ) → Contains order k → (k < length sizes) × (size ≤ slice_index sizes k)
  pub all : (k : ℕ) → k < length sizes → size ≤ slice_index sizes k → Contains order k
  pub in_order : (i j : ℕ) → i < j → j < length order → GoesFirst (slice_index sizes) (slice_index order i) (slice_index order j)
