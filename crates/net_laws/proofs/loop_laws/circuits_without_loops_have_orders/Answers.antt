use Rattle.net_laws.proofs.Verdicts.{order_of}
use Rattle.net_laws.proofs.loop_laws.circuits_without_loops_have_orders.Goals as goal

pub returns : goal.returns
returns c = λ texts design net serves none. order_of texts design net serves none
