use Rattle.std.proofs.Common.{◌∙◌}
use Rattle.clock_check.proofs.FlatTests.{asked}
use Rattle.clock_check.proofs.flat_set.FlatSet.contains.Goals as goal

pub returns : goal.returns
returns c = c.contains.ensures ∙ asked c.args.self.now.keys.keys c.args.key.now
