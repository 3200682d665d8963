use Rattle.ground_net.proofs.Mentioning.{one_of_net}
use Rattle.ground_net.proofs.laws.one_settled.Goals as goal

pub returns : goal.returns
returns c = λ net sequence w order s given. one_of_net net sequence w order s given
