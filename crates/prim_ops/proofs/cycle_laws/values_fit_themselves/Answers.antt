use Rattle.prim_ops.proofs.Fittings.{refitted}
use Rattle.prim_ops.proofs.cycle_laws.values_fit_themselves.Goals as goal

pub returns : goal.returns
returns c = λ v. refitted v
