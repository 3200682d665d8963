use Rattle.circuit_run.proofs.States.{settled_once}
use Rattle.circuit_run.proofs.laws.states_in_range_settle_once.Goals as goal

pub returns : goal.returns
returns c = λ texts design net sequence serves order s given inside fed. settled_once texts design net serves sequence order s given inside fed
