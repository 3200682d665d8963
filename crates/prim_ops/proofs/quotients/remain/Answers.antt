use Rattle.std.proofs.Common.{ap, ◌∙◌, arith}
use Rattle.bit_words.specs.Values.{bits_of}
use Rattle.prim_ops.specs.declared.operation.PrimOp.TheVariants.{Rem}
use Rattle.prim_ops.proofs.Divisions.{remainder_is}
use Rattle.prim_ops.proofs.Residues.{word_low}
use Rattle.prim_ops.proofs.Rows.{two, row_same}
use Rattle.prim_ops.proofs.quotients.remain.Goals as goal

pub returns : goal.returns
returns c =
    two Rem c.args.first c.args.second c.cut.result _ _ _ (row_same _ _ _ c.requires.row) c.min.ensures c.cut.ensures.kind c.cut.ensures.width c.cut.ensures.integer
    (word_low _ 128 _ _ (omega (arith, c.min.ensures, c.args.first.narrow)) (c.with_sign-word.ensures ∙ ap (bits_of 128)
    (remainder_is _ _ _ _ _ _ _ _ c.integer_from-numerator.ensures.meaning c.integer_from-divisor.ensures.meaning c.is_negative.ensures
    c.magnitude.ensures c.magnitude-2.ensures c.left_over-size.ensures.zero c.left_over-size.ensures.other)))
