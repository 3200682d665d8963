use Rattle.print_stop.proofs.Heads.{settled_enabled}
use Rattle.print_stop.proofs.print_laws.settled_wires_are_one_where_items_are_enabled.Goals as goal

pub returns : goal.returns
returns c = λ design s given rho path m component behind settled there is. settled_enabled design s given rho path m component behind settled there is
