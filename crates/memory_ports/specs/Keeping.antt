-- What is kept while a net is put together.
use Rattle.std.specs.Prelude.{◌≡◌, ℕ, List, length, take, count_by, slice_get, Option, Some, option_map}
use Rattle.ground_net.specs.declared.circuit.GroundLeaf.{GroundLeaf}
use Rattle.ground_net.specs.declared.net.Leaf.{Leaf}
use Rattle.memory_ports.specs.declared.reads.ReadData.{ReadData}
use Rattle.memory_ports.specs.declared.leaves.Counts.{Counts}
use Rattle.memory_ports.specs.Placing.{Shows, last_data, Part, is_given, is_held, is_kept, parts_of, role_behind, IsLeafOf}

-- Each leaf shows the data of the last of these reads that names it, and else what it did.
pub record Marks (reads : List Shows) (old new : List (Option ReadData)) : Type 0 where
  pub counted : length new ≡ length old
  pub each : (x : ℕ) → slice_get new x ≡ option_map (last_data reads x) (slice_get old x)

-- how many leaves of each sort of role are among these parts
pub record CountsOf (before : List Part) (counts : Counts) : Type 0 where
  pub inputs : counts.inputs ≡ count_by is_given before
  pub registers : counts.registers ≡ count_by is_held before
  pub captured : counts.captured ≡ count_by is_kept before

-- The leaves of a net stand for the first leaves of a circuit, in their roles.
pub record AreLeaves (old : List GroundLeaf) (shown : List (Option ReadData)) (new : List Leaf) : Type 0 where
  pub each : (x : ℕ) (leaf : GroundLeaf) (placed : Leaf) → slice_get old x ≡ Some leaf → slice_get new x ≡ Some placed → IsLeafOf leaf placed
  pub roles : (x : ℕ) (part : Part) (placed : Leaf) → slice_get (parts_of old shown) x ≡ Some part → slice_get new x ≡ Some placed → placed.role ≡ role_behind (take x (parts_of old shown)) part
