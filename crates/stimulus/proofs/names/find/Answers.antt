use Rattle.std.proofs.Common.{◌∙◌}
use Rattle.stimulus.specs.Naming.{found}
use Rattle.stimulus.proofs.names.find.Goals as goal

pub returns : goal.returns
unfolding found
returns c = c.copied.ensures ∙ c.get.ensures.value
