use Rattle.std.proofs.Common.{◌+◌, ap, arith}
use Rattle.prim_ops.specs.declared.operation.PrimOp.TheVariants.{Add}
use Rattle.prim_ops.proofs.Residues.{sum_low}
use Rattle.prim_ops.proofs.Rows.{two, row_same}
use Rattle.prim_ops.proofs.sums.add.Goals as goal

pub returns : goal.returns
returns c =
    two Add c.args.first c.args.second c.cut.result _ _ _ (row_same _ _ _ c.requires.row) (ap (λ w. w + 1) c.max.ensures) c.cut.ensures.kind c.cut.ensures.width c.cut.ensures.integer
    (sum_low _ 128 _ _ _ _ (omega arith) c.word_of.ensures c.word_of-2.ensures)
