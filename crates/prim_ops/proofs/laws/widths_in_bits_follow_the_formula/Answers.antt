use Rattle.prim_ops.proofs.Formulas.{in_bits}
use Rattle.prim_ops.proofs.laws.widths_in_bits_follow_the_formula.Goals as goal

pub returns : goal.returns
returns c = in_bits
