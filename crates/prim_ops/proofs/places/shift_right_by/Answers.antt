use Rattle.std.proofs.Common.{◌^◌, refl, ap, ◌∙◌}
use Rattle.prim_ops.specs.declared.operation.PrimOp.TheVariants.{Dshr}
use Rattle.prim_ops.proofs.Rows.{two, row_unsigned}
use Rattle.bit_words.specs.Values.{bits_of}
use Rattle.prim_ops.specs.Results.{floor_div}
use Rattle.prim_ops.proofs.Residues.{word_low}
use Rattle.prim_ops.proofs.places.shift_right_by.Goals as goal

pub returns : goal.returns
returns c =
    two Dshr c.args.first c.args.second c.cut.result _ _ _ (row_unsigned _ _ c.requires.row) (refl) c.cut.ensures.kind c.cut.ensures.width c.cut.ensures.integer
    (word_low _ 128 _ _ c.args.first.narrow (c.word_from.ensures ∙ ap (bits_of 128) (c.floor-shifted.ensures ∙ ap (λ z. floor_div z (2 ^ c.args.second.bits)) c.integer_from.ensures.meaning)))
