use Rattle.std.proofs.Common.{ap, ◌∙◌, arith}
use Rattle.bit_words.specs.Values.{bits_of}
use Rattle.prim_ops.specs.declared.operation.PrimOp.TheVariants.{Div}
use Rattle.prim_ops.proofs.Divisions.{quotient_is}
use Rattle.prim_ops.proofs.Residues.{word_low}
use Rattle.prim_ops.proofs.Rows.{two, row_same}
use Rattle.prim_ops.proofs.quotients.divide.Goals as goal

pub returns : goal.returns
returns c =
    two Div c.args.first c.args.second c.cut.result _ _ _ (row_same _ _ _ c.requires.row) (c.quotient_width.ensures c.args.second.width) c.cut.ensures.kind c.cut.ensures.width c.cut.ensures.integer
    (word_low _ 128 _ _ (omega (arith, c.quotient_width.ensures c.args.second.width)) (c.with_sign-word.ensures ∙ ap (bits_of 128)
    (quotient_is _ _ _ _ _ _ _ _ _ c.integer_from-numerator.ensures.meaning c.integer_from-divisor.ensures.meaning c.is_negative.ensures c.is_negative-2.ensures
    c.magnitude.ensures c.magnitude-2.ensures c.over-size.ensures.zero c.over-size.ensures.other)))
