use Rattle.circuit_run.proofs.Once.{ports_once}
use Rattle.circuit_run.proofs.laws.ports_are_one.Goals as goal

pub returns : goal.returns
returns c = λ texts design ports other a b. ports_once texts design ports other a b
