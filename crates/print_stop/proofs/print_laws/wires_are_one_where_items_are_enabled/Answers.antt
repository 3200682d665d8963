use Rattle.print_stop.proofs.Enabling.{one_where_enabled}
use Rattle.print_stop.proofs.print_laws.wires_are_one_where_items_are_enabled.Goals as goal

pub returns : goal.returns
returns c = λ scene wire heads behind n bit zero whole left. one_where_enabled scene wire bit heads behind zero whole n left
