use Rattle.fir_names.proofs.Graphs.{ends_more, end_below}
use Rattle.fir_names.proofs.graph.mark_ends.Goals as goal

pub mark-requires-clause-within : goal.mark-requires-clause-within
mark-requires-clause-within c = end_below c.args.out.now c.loop-edge.edge-index _ c.loop-edge-test.true c.requires.within c.loop-edge.invariant.counted

pub loop-edge-preserved : goal.loop-edge-preserved
loop-edge-preserved c = ends_more c.args.out.now c.loop-edge.edge-index _ c.loop-edge-test.true c.loop-edge.invariant c.in_ok-mark.ensures
