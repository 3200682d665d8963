-- Widths in several lists, one behind another, as the code holds them.
use Rattle.std.specs.Prelude.{List, [], ◌∷◌, take, drop}
use Rattle.fir_types.specs.declared.memory.MemLine.{MemLine}
use Rattle.fir_types.specs.declared.memory.MemLine.TheVariants as line
use Rattle.fir_types.specs.declared.memory.PortMode.{PortMode}
use Rattle.fir_types.specs.declared.memory.PortMode.TheVariants as mode
use Rattle.width_rules.specs.declared.held.Held.{Held}
use Rattle.width_rules.specs.declared.held.Held.TheVariants.{One, Many}
use Rattle.width_rules.specs.declared.pieces.Slots.{Slots}
use Rattle.width_rules.specs.declared.pieces.Slots.TheVariants.{Listed, Between}
use Rattle.width_rules.specs.declared.memories.PortWidths.{PortWidths}
use Rattle.width_rules.specs.declared.slot.Slot.{Slot}
pub use Rattle.width_rules.specs.Lists.{joined}

abbrev pub slots_in : Slots → List Slot
slots_in (Listed slots) = slots.now
slots_in (Between lists start end) = drop start (take end (joined lists.now))

abbrev pub held_slots : Held → List Slot
held_slots (One slots) = slots
held_slots (Many lists) = joined lists

-- the lists of a memory's port
abbrev pub mode_lists : PortWidths → PortMode → List (List Slot)
mode_lists widths mode.Reader = widths.first ∷ widths.element ∷ []
mode_lists widths mode.Writer = widths.first ∷ widths.element ∷ widths.mask ∷ []
mode_lists widths mode.ReadWriter = widths.first ∷ widths.element ∷ widths.bit ∷ widths.element ∷ widths.mask ∷ []

abbrev pub line_lists : PortWidths → MemLine → List (List Slot)
line_lists widths (line.MemPort at m name) = mode_lists widths m
line_lists widths _ = []
