use Rattle.std.proofs.Common.{◌≡◌, drop}
use Rattle.plain_values.specs.Sites.{is_at}
use Rattle.plain_cycle.specs.Firsts.{first_beside}
use Rattle.plain_cycle.proofs.finding.captured.Given as goal

abbrev pub invariant-loop-at : goal.invariant-loop-at
invariant-loop-at l = first_beside (is_at l.component.0.now l.component.1) l.sites l.values ≡ first_beside (is_at l.component.0.now l.component.1) (drop l.at l.sites) (drop l.at l.values)
