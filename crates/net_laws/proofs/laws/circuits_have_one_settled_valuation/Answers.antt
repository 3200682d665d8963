use Rattle.net_laws.proofs.Traces.{one_settled}
use Rattle.net_laws.proofs.laws.circuits_have_one_settled_valuation.Goals as goal

pub returns : goal.returns
returns c = λ texts design net sequence serves order s t given numbered matching within inputs ranges.
    one_settled texts design net serves.of serves.lists serves.has serves.typed sequence order s t given numbered matching within inputs ranges
