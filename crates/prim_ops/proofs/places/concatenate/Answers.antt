use Rattle.std.proofs.Common.{◌+◌, ◌*◌, ◌%◌, ◌^◌, refl, ap, ◌∙◌, lit≤}
use Rattle.prim_ops.specs.declared.operation.PrimOp.TheVariants.{Cat}
use Rattle.prim_ops.proofs.Rows.{two, row_same}
use Rattle.prim_ops.proofs.Moves.{joined}
use Rattle.prim_ops.proofs.places.concatenate.Goals as goal

pub returns : goal.returns
returns c =
    two Cat c.args.first c.args.second c.cut.result _ _ _ (row_same _ _ _ c.requires.row) (refl) c.cut.ensures.kind c.cut.ensures.width c.cut.ensures.integer
    (ap (λ n. n % 2 ^ (c.args.first.width + c.args.second.width)) (joined 128 _ _ c.args.first.width c.args.second.width _ c.args.first.within c.args.second.within c.requires.narrow c.raised-top.type_inv (c.raised-top.ensures 128 (lit≤ tt) ∙ ap (λ w. (c.args.first.bits * 2 ^ w) % 2 ^ 128) c.from.ensures)))
