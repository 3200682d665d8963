use Rattle.std.proofs.Common.{◌≡◌, map, drop}
use Rattle.drive_check.specs.Keys.{step_of}
use Rattle.plain_values.specs.Sites.{beside_leaf}
use Rattle.plain_values.proofs.sights.value_beside.Given as goal

abbrev pub invariant-loop-at : goal.invariant-loop-at
invariant-loop-at l = beside_leaf (map step_of l.way) l.leaves l.values ≡ beside_leaf (map step_of l.way) (drop l.at l.leaves) (drop l.at l.values)
