use Rattle.flatten_instances.proofs.Uniqueness.{one_order}
use Rattle.flatten_instances.proofs.laws.flat_orders_are_one.Goals as goal

pub returns : goal.returns
returns c = λ driven path n m y k i a b f g. one_order f g
