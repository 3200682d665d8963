use Rattle.std.proofs.Common.{◌∙◌, arith}
use Rattle.comb_order.proofs.Begins.{begins, ends}
use Rattle.comb_order.proofs.graph_ordering.sequence.Goals as goal

pub loop-root-init : goal.loop-root-init
loop-root-init c = record {
  searching = begins c.args.reads.now c.as_mut_slice-marks.result.now c.as_mut_slice-left.result.now c.new-path.result.items c.new-sequence.result.items
      (c.as_mut_slice-marks.ensures.value ∙ c.in_ok-mark_table.ensures) (c.as_mut_slice-left.ensures.value ∙ c.in_ok-left_table.ensures) c.new-path.ensures.items c.new-sequence.ensures.items;
  at_end = c.new-path.ensures.len;
  below = λ u lt. absurd (omega arith);
}

pub returns-clause-ordered : goal.returns-clause-ordered
returns-clause-ordered c =
    ends c.args.reads.now c.loop-root.marks c.loop-root.left c.loop-root.path.items c.loop-root.sequence.items c.loop-root.root c.loop-root.invariant.searching
    (omega (arith, c.loop-root-test.false)) c.loop-root.invariant.below
