use Rattle.std.proofs.Common.{◌-◌, ◌^◌, max, refl, ap, ◌∙◌, arith}
use Rattle.prim_ops.specs.declared.operation.PrimOp.TheVariants.{Shr}
use Rattle.prim_ops.proofs.Rows.{one}
use Rattle.bit_words.specs.Values.{bits_of}
use Rattle.prim_ops.specs.Results.{floor_div}
use Rattle.prim_ops.proofs.Residues.{word_low}
use Rattle.prim_ops.proofs.places.shift_right.Goals as goal

pub returns : goal.returns
returns c =
    one Shr c.args.operand c.args.by 0 c.cut.result _ _ _ refl (c.max-width.ensures ∙ ap (λ w. max w 1) (c.saturating_sub.ensures ∙ ap (λ w. w - c.args.by) c.from.ensures)) c.cut.ensures.kind c.cut.ensures.width c.cut.ensures.integer
    (word_low _ 128 _ _ (omega (arith, c.max-width.ensures, c.saturating_sub.ensures, c.from.ensures, c.args.operand.narrow)) (c.word_from.ensures ∙ ap (bits_of 128) (c.floor.ensures ∙ ap (λ z. floor_div z (2 ^ c.args.by)) c.integer_from.ensures.meaning)))
