use Rattle.std.proofs.Common.{◌≡◌, ◌++◌, map, zip, drop}
use Rattle.part_fits.specs.Widths.{wider_of}
use Rattle.part_fits.proofs.widths.wider_each.Given as goal

abbrev pub invariant-loop-at : goal.invariant-loop-at
invariant-loop-at l = map wider_of (zip l.first l.second) ≡ l.greater ++ map wider_of (zip (drop l.at l.first) (drop l.at l.second))
