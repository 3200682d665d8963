use Rattle.std.proofs.Common.{refl}
use Rattle.prim_ops.specs.declared.operation.PrimOp.TheVariants.{Neg}
use Rattle.prim_ops.proofs.Residues.{negated_low}
use Rattle.prim_ops.proofs.Rows.{one}
use Rattle.prim_ops.proofs.sums.negate.Goals as goal

pub returns : goal.returns
returns c =
    one Neg c.args.operand 0 0 c.cut.result _ _ _ refl refl c.cut.ensures.kind c.cut.ensures.width c.cut.ensures.integer
    (negated_low _ 128 _ _ c.requires c.word_of-negated.ensures)
