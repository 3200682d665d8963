use Rattle.std.proofs.Common.{◌≤◌, arith}
use Rattle.prim_ops.proofs.Residues.{raised_low, gone_low}
use Rattle.prim_ops.proofs.words.raised.Goals as goal

pub returns-then-by-lt128 : goal.returns-then-by-lt128
returns-then-by-lt128 c = λ width small. raised_low width 128 c.args.number c.args.by small

pub returns-else-by-lt128 : goal.returns-else-by-lt128
returns-else-by-lt128 c = λ width small. let most : width ≤ c.args.by = omega arith in gone_low width c.args.number c.args.by most
