use Rattle.net_laws.proofs.Loops.{first_of_net, first_of_circuit}
use Rattle.net_laws.proofs.loop_laws.first_loops_are_the_same.Goals as goal

pub returns-clause-of_net : goal.returns-clause-of_net
returns-clause-of_net c = λ texts design net serves place loop. first_of_net texts design net serves.of serves.lists serves.has serves.typed place loop

pub returns-clause-of_circuit : goal.returns-clause-of_circuit
returns-clause-of_circuit c = λ texts design net serves place loop. first_of_circuit texts design net serves.of serves.lists serves.has serves.typed place loop
