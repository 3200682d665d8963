use Rattle.net_laws.proofs.Traces.{settles}
use Rattle.net_laws.proofs.laws.settled_nets_settle_circuits.Goals as goal

pub returns : goal.returns
returns c = λ texts design net sequence serves order s t given numbered rho matching within inputs ranges settled.
    settles texts design net serves.of serves.lists serves.has serves.typed sequence order s t given numbered rho matching within inputs ranges settled
