use Rattle.std.proofs.Common.{◌∙◌}
use Rattle.prim_ops.specs.declared.operation.PrimOp.TheVariants.{Dshl}
use Rattle.prim_ops.proofs.Rows.{two, row_unsigned}
use Rattle.prim_ops.proofs.Residues.{shifted_low}
use Rattle.prim_ops.proofs.Moves.{shift_room, shift_narrow}
use Rattle.prim_ops.proofs.places.shift_left_by.Goals as goal

pub returns : goal.returns
returns c =
    two Dshl c.args.first c.args.second c.cut.result _ _ _ (row_unsigned _ _ c.requires.row) (shift_room _ _ c.requires.narrow) c.cut.ensures.kind c.cut.ensures.width c.cut.ensures.integer
    (c.raised.ensures _ (shift_narrow _ _ c.requires.narrow) ∙ shifted_low _ 128 _ _ _ (shift_narrow _ _ c.requires.narrow) c.word_of.ensures)
