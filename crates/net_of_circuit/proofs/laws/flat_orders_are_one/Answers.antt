use Rattle.net_of_circuit.proofs.Orders.{one_order}
use Rattle.net_of_circuit.proofs.laws.flat_orders_are_one.Goals as goal

pub returns : goal.returns
returns c = λ design path m components a b f g. one_order f g
