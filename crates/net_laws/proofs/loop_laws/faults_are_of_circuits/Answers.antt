use Rattle.net_laws.proofs.Verdicts.{fault_of_net, fault_of_circuit}
use Rattle.net_laws.proofs.loop_laws.faults_are_of_circuits.Goals as goal

pub returns-clause-of_net : goal.returns-clause-of_net
returns-clause-of_net c = λ texts design net serves fault has. fault_of_net texts design net serves fault has

pub returns-clause-of_circuit : goal.returns-clause-of_circuit
returns-clause-of_circuit c = λ texts design net serves fault has. fault_of_circuit texts design net serves fault has
