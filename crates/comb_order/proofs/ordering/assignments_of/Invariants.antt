use Rattle.std.proofs.Common.{take}
use Rattle.ground_net.specs.Reads.{IsAssigned}
use Rattle.comb_order.specs.Graphs.{Keeps}
use Rattle.comb_order.proofs.ordering.assignments_of.Given as goal

abbrev pub invariant-loop-number : goal.invariant-loop-number
invariant-loop-number l = Keeps (IsAssigned l.leaves) (take l.number-index l.numbers) l.kept
