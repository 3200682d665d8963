use Rattle.std.proofs.Common.{◌-◌, ◌/◌, ◌%◌, ◌^◌, refl, ap, ◌∙◌}
use Rattle.prim_ops.specs.declared.operation.PrimOp.TheVariants.{Head}
use Rattle.prim_ops.proofs.Rows.{one}
use Rattle.prim_ops.proofs.places.head.Goals as goal

pub returns : goal.returns
returns c =
    one Head c.args.operand c.args.count 0 c.cut.result _ _ _ refl (refl) c.cut.ensures.kind c.cut.ensures.width c.cut.ensures.integer
    (ap (λ n. n % 2 ^ c.args.count) (c.lowered.ensures ∙ ap (λ w. c.args.operand.bits / 2 ^ (w - c.args.count)) c.from.ensures))
