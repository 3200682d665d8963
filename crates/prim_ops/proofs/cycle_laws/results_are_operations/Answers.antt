use Rattle.prim_ops.proofs.Fittings.{result_is}
use Rattle.prim_ops.proofs.cycle_laws.results_are_operations.Goals as goal

pub returns : goal.returns
returns c = λ prim values params result h. result_is prim values params result h
