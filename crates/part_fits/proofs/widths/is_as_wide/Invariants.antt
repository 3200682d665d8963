use Rattle.std.proofs.Common.{◌↔◌, drop}
use Rattle.part_fits.proofs.Slots.{IsAsWide}
use Rattle.part_fits.proofs.widths.is_as_wide.Given as goal

abbrev pub invariant-loop-at : goal.invariant-loop-at
invariant-loop-at l = IsAsWide l.first l.second ↔ IsAsWide (drop l.at l.first) (drop l.at l.second)
