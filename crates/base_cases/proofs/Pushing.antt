-- How many publications codes make.
use Rattle.std.proofs.Common.{◌*◌, ◌≤◌, List, [], ◌∷◌, length, arith}
use Rattle.flat_code.specs.declared.instr.Op.{Op}
use Rattle.flat_code.specs.declared.instr.Op.TheVariants as op
use Rattle.flat_code.specs.declared.instr.Instr.{Instr}
use Rattle.flat_code.specs.Meaning.{push_of, pushes}

few : (o : Op) → push_of o ≤ 2
few op.Publish = omega arith
few op.PublishAt = omega arith
few _ = omega arith

-- no more publications than two for each instruction
pub pushes_few : (is : List Instr) → pushes is ≤ 2 * length is
pushes_few [] = omega arith
pushes_few (i ∷ is) = let here = few i.op in let rest = pushes_few is in omega (arith, here, rest)
