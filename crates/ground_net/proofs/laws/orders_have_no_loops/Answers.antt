use Rattle.ground_net.proofs.Loops.{no_loop}
use Rattle.ground_net.proofs.laws.orders_have_no_loops.Goals as goal

pub returns : goal.returns
returns c = λ net sequence order. no_loop net sequence order
