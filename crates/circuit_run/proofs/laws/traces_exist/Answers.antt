use Rattle.circuit_run.proofs.Traces.{trace_exists}
use Rattle.circuit_run.proofs.laws.traces_exist.Goals as goal

pub returns : goal.returns
returns c = λ texts design net sequence serves order ports fed seen stimulus formed. trace_exists texts design net serves sequence order ports fed stimulus formed
