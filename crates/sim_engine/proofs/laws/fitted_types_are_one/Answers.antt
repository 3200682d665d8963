use Rattle.sim_engine.proofs.Solving.{same_declared, same_nodes, same_modules}
use Rattle.sim_engine.proofs.laws.fitted_types_are_one.Goals as goal

pub returns-clause-declared : goal.returns-clause-declared
returns-clause-declared c = same_declared

pub returns-clause-nodes : goal.returns-clause-nodes
returns-clause-nodes c = same_nodes

pub returns-clause-reached : goal.returns-clause-reached
returns-clause-reached c = same_modules
