use Rattle.std.proofs.Common.{◌≡◌, ◌-◌, ◌%◌, ◌^◌, refl, ap, arith}
use Rattle.prim_ops.specs.declared.operation.PrimOp.TheVariants.{Not}
use Rattle.prim_ops.proofs.Rows.{one}
use Rattle.prim_ops.proofs.bitwise.not.Goals as goal

pub returns : goal.returns
returns c =
    one Not c.args.operand 0 0 c.cut.result _ _ _ refl (refl) c.cut.ensures.kind c.cut.ensures.width c.cut.ensures.integer
    (ap (λ n. n % 2 ^ c.args.operand.width) (let e : c.greatest.result - c.args.operand.bits ≡ 2 ^ c.args.operand.width - 1 - c.args.operand.bits = omega (arith, c.greatest.ensures) in e))
