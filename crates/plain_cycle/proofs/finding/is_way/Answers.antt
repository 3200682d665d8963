use Rattle.std.proofs.Common.{◌∙◌}
use Rattle.plain_cycle.proofs.Firsts.{ways_same}
use Rattle.plain_cycle.proofs.finding.is_way.Goals as goal

pub returns : goal.returns
returns c = c.eq.ensures ∙ ways_same c.args.way.now c.args.other.now
