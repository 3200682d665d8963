use Rattle.ground_net.proofs.Ranges.{settled_has}
use Rattle.ground_net.proofs.laws.settled_values_have_their_shapes.Goals as goal

pub returns : goal.returns
returns c = λ net sequence w order s given rho p. settled_has net w sequence order s given rho p
