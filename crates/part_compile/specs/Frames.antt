-- How many slots the codes of parts take.
use Rattle.std.specs.Prelude.{◌≡◌, ℕ, ◌≤◌, List, slice_get, Some, Contains}
use Rattle.ground_net.specs.declared.net.Net.{Net}
use Rattle.ground_net.specs.declared.net.CutPart.{CutPart}
use Rattle.ground_net.specs.Cones.{A_watched}
use Rattle.ground_net.specs.Reads.{IsAssigned}
use Rattle.flat_code.specs.declared.code.Code.{Code}
use Rattle.flat_code.specs.Codes.{frame_length}
use Rattle.partition_code.specs.Codes.{sinks_of_part}
use Rattle.part_compile.specs.SlotBounds.{frame_bound}

-- the watched leaves of a part are assignments
abbrev pub WatchesAssignments : Net → List ℕ → CutPart → Type 0
WatchesAssignments net watch part = (x : ℕ) → Contains (sinks_of_part net watch part) (A_watched x) → IsAssigned net.leaves x

-- Two slots for each assignment of the part that is live at once and for each node of its largest driver suffice.
abbrev pub TakesFewSlots : Net → List ℕ → CutPart → Code → Type 0
TakesFewSlots net watch part code = WatchesAssignments net watch part → frame_length code ≤ frame_bound net watch part

-- So it is of the code of each part.
abbrev pub TakeFewSlots : Net → List ℕ → List CutPart → List Code → Type 0
TakeFewSlots net watch parts codes = (p : ℕ) (part : CutPart) (code : Code) → slice_get parts p ≡ Some part → slice_get codes p ≡ Some code → TakesFewSlots net watch part code
