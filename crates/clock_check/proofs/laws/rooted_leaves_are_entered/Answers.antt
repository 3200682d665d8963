use Rattle.clock_check.proofs.Rooting.{entered}
use Rattle.clock_check.proofs.laws.rooted_leaves_are_entered.Goals as goal

pub returns : goal.returns
returns c = entered
