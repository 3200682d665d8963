use Rattle.std.proofs.Common.{refl, ◌∙◌}
use Rattle.prim_ops.specs.declared.operation.PrimOp.TheVariants.{Shl}
use Rattle.prim_ops.proofs.Rows.{one}
use Rattle.prim_ops.proofs.Residues.{shifted_low}
use Rattle.prim_ops.proofs.places.shift_left.Goals as goal

pub returns : goal.returns
returns c =
    one Shl c.args.operand c.args.by 0 c.cut.result _ _ _ refl (refl) c.cut.ensures.kind c.cut.ensures.width c.cut.ensures.integer
    (c.raised.ensures _ c.requires ∙ shifted_low _ 128 _ _ _ c.requires c.word_of.ensures)
