use Rattle.std.proofs.Common.{◌≡◌, ◌++◌, map, length}
use Rattle.width_rules.specs.Pieces.{slots_in}
use Rattle.part_fits.specs.Widths.{slot_width}
use Rattle.part_fits.proofs.widths.widths_in.Given as goal

abbrev pub invariant-loop-piece : goal.invariant-loop-piece
invariant-loop-piece l = map (slot_width l.widths) (slots_in l.fn.slots) ≡ l.found ++ map (slot_width l.widths) (slots_in l.rest)

abbrev pub decreases-loop-piece : goal.decreases-loop-piece
decreases-loop-piece l = length (slots_in l.rest)
