use Rattle.std.proofs.Common.{◌+◌, ap, arith}
use Rattle.prim_ops.specs.declared.operation.PrimOp.TheVariants.{Sub}
use Rattle.prim_ops.proofs.Residues.{difference_low}
use Rattle.prim_ops.proofs.Rows.{two, row_same}
use Rattle.prim_ops.proofs.sums.subtract.Goals as goal

pub returns : goal.returns
returns c =
    two Sub c.args.first c.args.second c.cut.result _ _ _ (row_same _ _ _ c.requires.row) (ap (λ w. w + 1) c.max.ensures) c.cut.ensures.kind c.cut.ensures.width c.cut.ensures.integer
    (difference_low _ 128 _ _ _ _ (omega arith) c.word_of.ensures c.word_of-2.ensures)
