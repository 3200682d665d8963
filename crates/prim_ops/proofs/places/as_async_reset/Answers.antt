use Rattle.std.proofs.Common.{refl}
use Rattle.prim_ops.specs.declared.operation.PrimOp.TheVariants.{AsAsyncReset}
use Rattle.prim_ops.proofs.Rows.{one}
use Rattle.prim_ops.proofs.places.as_async_reset.Goals as goal

pub returns : goal.returns
returns c =
    one AsAsyncReset c.args.operand 0 0 c.cut.result _ _ _ refl (refl) c.cut.ensures.kind c.cut.ensures.width c.cut.ensures.integer
    (refl)
