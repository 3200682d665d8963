use Rattle.std.proofs.Common.{◌≡◌, drop}
use Rattle.plain_cycle.specs.Firsts.{first_beside}
use Rattle.plain_cycle.specs.Runs.{shows}
use Rattle.plain_cycle.proofs.finding.read_in.Given as goal

abbrev pub invariant-loop-at : goal.invariant-loop-at
invariant-loop-at l = first_beside (shows l.port l.way) l.leaves l.values ≡ first_beside (shows l.port l.way) (drop l.at l.leaves) (drop l.at l.values)
