use Rattle.std.proofs.Common.{◌≡◌, drop}
use Rattle.std.specs.List.{list_any}
use Rattle.part_fits.specs.Widths.{is_over}
use Rattle.part_fits.proofs.widths.any_over.Given as goal

abbrev pub invariant-loop-width : goal.invariant-loop-width
invariant-loop-width l = list_any is_over l.widths ≡ list_any is_over (drop l.width-index l.widths)
