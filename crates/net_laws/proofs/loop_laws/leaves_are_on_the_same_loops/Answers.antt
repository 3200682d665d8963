use Rattle.net_laws.proofs.Loops.{loop_of_net, loop_of_circuit}
use Rattle.net_laws.proofs.loop_laws.leaves_are_on_the_same_loops.Goals as goal

pub returns-clause-of_net : goal.returns-clause-of_net
returns-clause-of_net c = λ texts design net serves x y e t. loop_of_net texts design net serves.of serves.lists serves.has serves.typed x y e t

pub returns-clause-of_circuit : goal.returns-clause-of_circuit
returns-clause-of_circuit c = λ texts design net serves x y e r. loop_of_circuit texts design net serves.of serves.lists serves.has serves.typed x y e r
