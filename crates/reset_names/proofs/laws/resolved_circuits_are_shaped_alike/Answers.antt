use Rattle.reset_names.proofs.Marking.{same_shape}
use Rattle.reset_names.proofs.laws.resolved_circuits_are_shaped_alike.Goals as goal

pub returns : goal.returns
returns c circuit tree r = same_shape circuit tree r
