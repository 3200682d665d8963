use Rattle.std.proofs.Common.{◌∙◌}
use Rattle.drive_check.proofs.KeyTests.{key_same}
use Rattle.plain_cycle.proofs.finding.is_same.Goals as goal

pub returns : goal.returns
returns c = c.eq.ensures ∙ key_same c.args.key.now c.args.leaf.now
