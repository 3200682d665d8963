use Rattle.std.proofs.Common.{◌≡◌, ◌+◌, ◌-◌, ◌%◌, ◌^◌, refl, ap, arith}
use Rattle.prim_ops.specs.declared.operation.PrimOp.TheVariants.{Bits}
use Rattle.prim_ops.proofs.Rows.{one}
use Rattle.prim_ops.proofs.places.extract.Goals as goal

pub returns : goal.returns
returns c =
    one Bits c.args.operand c.args.high c.args.low c.cut.result _ _ _ refl (let e : c.args.high - c.args.low + 1 ≡ c.args.high + 1 - c.args.low = omega (arith, c.requires.0) in e) c.cut.ensures.kind c.cut.ensures.width c.cut.ensures.integer
    (ap (λ n. n % 2 ^ (c.args.high - c.args.low + 1)) c.lowered.ensures)
