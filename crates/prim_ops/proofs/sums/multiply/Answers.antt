use Rattle.std.proofs.Common.{refl}
use Rattle.prim_ops.specs.declared.operation.PrimOp.TheVariants.{Mul}
use Rattle.prim_ops.proofs.Residues.{product_low}
use Rattle.prim_ops.proofs.Rows.{two, row_same}
use Rattle.prim_ops.proofs.sums.multiply.Goals as goal

pub returns : goal.returns
returns c =
    two Mul c.args.first c.args.second c.cut.result _ _ _ (row_same _ _ _ c.requires.row) refl c.cut.ensures.kind c.cut.ensures.width c.cut.ensures.integer
    (product_low _ 128 _ _ _ _ c.requires.narrow c.word_of.ensures c.word_of-2.ensures)
