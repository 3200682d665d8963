use Rattle.std.proofs.Common.{arith}
use Rattle.prim_ops.specs.declared.operation.PrimOp.TheVariants.{Or}
use Rattle.prim_ops.proofs.Rows.{two, row_same}
use Rattle.prim_ops.proofs.Moves.{or_low}
use Rattle.prim_ops.proofs.bitwise.or.Goals as goal

pub returns : goal.returns
returns c =
    two Or c.args.first c.args.second c.cut.result _ _ _ (row_same _ _ _ c.requires) (c.max.ensures) c.cut.ensures.kind c.cut.ensures.width c.cut.ensures.integer
    (or_low _ _ 128 _ _ _ _ c.max.ensures (omega (arith, c.args.first.narrow, c.args.second.narrow)) c.word_of.ensures c.word_of-2.ensures)
