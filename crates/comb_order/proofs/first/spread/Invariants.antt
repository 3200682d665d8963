use Rattle.std.proofs.Common.{take}
use Rattle.comb_order.specs.Reach.{Spreads}
use Rattle.comb_order.proofs.first.spread.Given as goal

abbrev pub invariant-loop-vertex : goal.invariant-loop-vertex
invariant-loop-vertex l = Spreads (take l.vertex-index l.row) l.fn.marks l.fn.waiting.items l.marks l.waiting.items
