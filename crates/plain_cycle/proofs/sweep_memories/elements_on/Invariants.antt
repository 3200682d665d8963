use Rattle.std.proofs.Common.{◌≡◌, drop}
use Rattle.plain_values.specs.Sites.{is_at}
use Rattle.plain_cycle.specs.Firsts.{first_beside}
use Rattle.plain_cycle.proofs.sweep_memories.elements_on.Given as goal

abbrev pub invariant-loop-at : goal.invariant-loop-at
invariant-loop-at l = first_beside (is_at l.path l.name) l.sites l.contents ≡ first_beside (is_at l.path l.name) (drop l.at l.sites) (drop l.at l.contents)
