use Rattle.std.proofs.Common.{◌-◌, ◌^◌, max, refl, ap, ◌∙◌, arith}
use Rattle.prim_ops.specs.declared.operation.PrimOp.TheVariants.{ShrFour}
use Rattle.prim_ops.proofs.Rows.{one}
use Rattle.bit_words.specs.Values.{bits_of}
use Rattle.prim_ops.specs.Widths.{width_on_one}
use Rattle.prim_ops.specs.Results.{floor_div}
use Rattle.prim_ops.proofs.Residues.{word_low}
use Rattle.prim_ops.proofs.Formulas.{shift_four_narrow}
use Rattle.prim_ops.proofs.places.shift_right_four.Goals as goal

pub returns : goal.returns
returns c =
    one ShrFour c.args.operand c.args.by 0 c.cut.result _ _ _ refl (c.shifted-width.ensures ∙ ap (λ w. width_on_one ShrFour c.args.operand.kind w c.args.by 0) c.from.ensures) c.cut.ensures.kind c.cut.ensures.width c.cut.ensures.integer
    (word_low _ 128 _ _ (omega (arith, c.shifted-width.ensures, shift_four_narrow c.args.operand.kind c.args.operand.width c.args.by c.args.operand.narrow, ap (λ w. width_on_one ShrFour c.args.operand.kind w c.args.by 0) c.from.ensures)) (c.word_from.ensures ∙ ap (bits_of 128) (c.floor.ensures ∙ ap (λ z. floor_div z (2 ^ c.args.by)) c.integer_from.ensures.meaning)))
