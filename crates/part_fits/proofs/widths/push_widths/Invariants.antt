use Rattle.std.proofs.Common.{◌≡◌, ◌++◌, map, take}
use Rattle.part_fits.specs.Widths.{slot_width}
use Rattle.part_fits.proofs.widths.push_widths.Given as goal

abbrev pub invariant-loop-slot : goal.invariant-loop-slot
invariant-loop-slot l = l.found ≡ l.fn.found ++ map (slot_width l.widths) (take l.slot-index l.slots)
