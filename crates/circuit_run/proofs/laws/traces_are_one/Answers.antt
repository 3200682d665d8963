use Rattle.circuit_run.proofs.Once.{traces_once}
use Rattle.circuit_run.proofs.laws.traces_are_one.Goals as goal

pub returns : goal.returns
returns c = λ texts design net sequence serves order stimulus bytes other a b. traces_once texts design net sequence serves order stimulus bytes other a b
