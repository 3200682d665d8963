use Rattle.std.proofs.Common.{◌∙◌}
use Rattle.drive_check.proofs.KeyTests.{asked}
use Rattle.drive_check.proofs.leaf_set.LeafSet.contains.Goals as goal

pub returns : goal.returns
returns c = c.contains.ensures ∙ asked c.args.self.now.keys.keys c.args.key.now
