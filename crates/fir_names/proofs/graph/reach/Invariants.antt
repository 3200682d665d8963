use Rattle.std.proofs.Common.{length, ◌-◌}
use Rattle.fir_names.proofs.Graphs.{Visits}
use Rattle.fir_names.proofs.graph.reach.Given as goal

abbrev pub invariant-loop-next : goal.invariant-loop-next
invariant-loop-next l = Visits l.graph l.start l.marks.items l.order.items l.next

abbrev pub decreases-loop-next : goal.decreases-loop-next
decreases-loop-next l = length l.graph - l.next
