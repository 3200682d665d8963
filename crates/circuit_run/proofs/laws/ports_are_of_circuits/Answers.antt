use Rattle.circuit_run.proofs.Parts.{ports_of_circuit}
use Rattle.circuit_run.proofs.laws.ports_are_of_circuits.Goals as goal

pub returns : goal.returns
returns c = λ texts design net serves ports fed seen named. ports_of_circuit texts design net serves ports fed seen named
