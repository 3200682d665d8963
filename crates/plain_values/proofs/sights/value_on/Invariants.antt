use Rattle.std.proofs.Common.{◌≡◌, map, drop}
use Rattle.drive_check.specs.Keys.{step_of}
use Rattle.plain_values.specs.Sites.{value_on}
use Rattle.plain_values.proofs.sights.value_on.Given as goal

abbrev pub invariant-loop-at : goal.invariant-loop-at
invariant-loop-at l = value_on l.sites l.values l.path l.name (map step_of l.way) ≡ value_on (drop l.at l.sites) (drop l.at l.values) l.path l.name (map step_of l.way)
