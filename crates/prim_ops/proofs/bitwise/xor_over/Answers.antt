use Rattle.std.proofs.Common.{◌%◌, ◌^◌, refl, ap}
use Rattle.prim_ops.specs.declared.operation.PrimOp.TheVariants.{Xorr}
use Rattle.prim_ops.proofs.Rows.{one}
use Rattle.prim_ops.proofs.bitwise.xor_over.Goals as goal

pub returns : goal.returns
returns c =
    one Xorr c.args.operand 0 0 c.cut.result _ _ _ refl (refl) c.cut.ensures.kind c.cut.ensures.width c.cut.ensures.integer
    (ap (λ n. n % 2 ^ 1) c.from.ensures)
