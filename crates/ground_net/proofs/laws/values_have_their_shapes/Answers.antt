use Rattle.ground_net.proofs.Shaping.{shapes_hold}
use Rattle.ground_net.proofs.laws.values_have_their_shapes.Goals as goal

pub returns : goal.returns
returns c = λ g table instant s e h. shapes_hold table instant h g s e
