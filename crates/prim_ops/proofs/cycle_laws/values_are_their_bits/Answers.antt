use Rattle.prim_ops.proofs.Fittings.{same_value}
use Rattle.prim_ops.proofs.cycle_laws.values_are_their_bits.Goals as goal

pub returns : goal.returns
returns c = λ v w k l b. same_value v w k l b
