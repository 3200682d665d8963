use Rattle.net_laws.proofs.Accepted.{lists_leaves}
use Rattle.net_laws.proofs.design_laws.flat_orders_list_each_leaf_once.Goals as goal

pub returns : goal.returns
returns c = λ fitted well main found placed order. lists_leaves fitted well main found placed order
