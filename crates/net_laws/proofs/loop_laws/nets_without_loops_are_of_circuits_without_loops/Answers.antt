use Rattle.net_laws.proofs.Loops.{none_of_net, none_of_circuit}
use Rattle.net_laws.proofs.loop_laws.nets_without_loops_are_of_circuits_without_loops.Goals as goal

pub returns-clause-of_net : goal.returns-clause-of_net
returns-clause-of_net c = λ texts design net serves none. none_of_net texts design net serves.of serves.lists serves.has serves.typed none

pub returns-clause-of_circuit : goal.returns-clause-of_circuit
returns-clause-of_circuit c = λ texts design net serves none. none_of_circuit texts design net serves.of serves.lists serves.has serves.typed none
