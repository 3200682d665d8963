use Rattle.std.proofs.Common.{◌≡◌, drop}
use Rattle.plain_values.specs.Sites.{is_at}
use Rattle.plain_cycle.specs.Firsts.{first_beside}
use Rattle.plain_cycle.proofs.finding.part_at.Given as goal

abbrev pub invariant-loop-at : goal.invariant-loop-at
invariant-loop-at l = first_beside (is_at l.path l.name) l.run.sites.now l.run.declared.now ≡ first_beside (is_at l.path l.name) (drop l.at l.run.sites.now) (drop l.at l.run.declared.now)
