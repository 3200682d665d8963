use Rattle.comb_order.proofs.Existing.{order_there}
use Rattle.comb_order.proofs.laws.nets_without_loops_have_orders.Goals as goal

pub returns : goal.returns
returns c = λ net mentioned none. order_there net mentioned none
