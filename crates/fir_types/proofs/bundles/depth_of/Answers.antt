use Rattle.std.proofs.Common.{sym, ap}
use Rattle.fir_types.specs.Memories.{depth_in}
use Rattle.fir_types.proofs.Lines.{first_line, none_more, not_depth}
use Rattle.fir_types.proofs.bundles.depth_of.Goals as goal

pub returns-in-Depth : goal.returns-in-Depth
returns-in-Depth c =
    sym (first_line depth_in c.args.lines.now c.loop-line.line-index c.line-item.result c.in-Depth.depth 1 c.loop-line-test.true c.line-item.is c.loop-line.invariant (ap depth_in c.in-Depth.is))

pub loop-line-preserved : goal.loop-line-preserved
loop-line-preserved c =
    none_more depth_in c.args.lines.now c.loop-line.line-index c.line-item.result c.loop-line-test.true c.line-item.is c.loop-line.invariant (not_depth c.line-item.result c.in_default.not-Depth)
