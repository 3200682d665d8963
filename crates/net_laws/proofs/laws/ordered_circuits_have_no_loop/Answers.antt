use Rattle.net_laws.proofs.Traces.{no_loops}
use Rattle.net_laws.proofs.laws.ordered_circuits_have_no_loop.Goals as goal

pub returns : goal.returns
returns c = λ texts design net sequence serves order. no_loops texts design net serves.of serves.lists serves.has serves.typed sequence order
