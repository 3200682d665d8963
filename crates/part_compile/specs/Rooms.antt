-- For how many slots the code of a part has room, by its assignments that are live behind some position of its sequence, and by its largest
-- driver.
use Rattle.std.specs.Prelude.{ℕ, ◌+◌, ◌≤◌, ◌*◌, List, ◌++◌, filter, filter_map, flat_map, length, take, drop, slice_get}
use Rattle.ground_net.specs.declared.net.Net.{Net}
use Rattle.ground_net.specs.declared.net.CutPart.{CutPart}
use Rattle.ground_net.specs.Cones.{needs, sinks}
use Rattle.ground_net.specs.Reads.{direct_reads}
use Rattle.flat_code.specs.Fine.{among}
use Rattle.part_compile.specs.SlotBounds.{most_nodes}

-- what the sinks of a part read directly
abbrev pub read_by_sinks : Net → List ℕ → CutPart → List ℕ
read_by_sinks net watch part = flat_map (needs net) (filter_map (slice_get (sinks net watch)) part.sinks)

-- what they read, and the assignments that stand at a position or behind it
abbrev pub read_from : Net → List ℕ → CutPart → ℕ → List ℕ
read_from net watch part k = read_by_sinks net watch part ++ flat_map (direct_reads net) (drop k part.assignments)

-- the assignments before a position that are read at it or behind it
abbrev pub live_before : Net → List ℕ → CutPart → ℕ → List ℕ
live_before net watch part k = filter (among (read_from net watch part k)) (take k part.assignments)

-- No more than the assignments that are live at some position.
pub record AreLive (net : Net) (watch : List ℕ) (part : CutPart) (count : ℕ) : Type 0 where
  pub at : ℕ
  pub few : count ≤ length (live_before net watch part at)

-- No more slots than two for each assignment that is live at some position, and for each node of the largest driver.
pub record HasRoom (net : Net) (watch : List ℕ) (part : CutPart) (room : ℕ) : Type 0 where
  pub at : ℕ
  pub few : room ≤ 2 * (length (live_before net watch part at) + most_nodes net watch part)
