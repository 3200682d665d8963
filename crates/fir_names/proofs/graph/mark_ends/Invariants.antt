use Rattle.std.proofs.Common.{take}
use Rattle.fir_names.specs.Graphs.{Spreads, ends}
use Rattle.fir_names.proofs.graph.mark_ends.Given as goal

abbrev pub invariant-loop-edge : goal.invariant-loop-edge
invariant-loop-edge l = Spreads (ends (take l.edge-index l.out)) l.fn.marks.items l.fn.order.items l.marks.items l.order.items
