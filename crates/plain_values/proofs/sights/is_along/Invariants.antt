use Rattle.std.proofs.Common.{◌≡◌, map}
use Rattle.fir_meaning.specs.Drives.{same_way}
use Rattle.drive_check.specs.Keys.{step_of}
use Rattle.plain_values.proofs.Looking.{from}
use Rattle.plain_values.proofs.sights.is_along.Given as goal

abbrev pub invariant-loop-at : goal.invariant-loop-at
invariant-loop-at l = same_way l.path (map step_of l.way) ≡ from l.path l.way l.at
