use Rattle.std.proofs.Common.{◌≡◌}
use Rattle.comb_order.specs.Graphs.{rows_of}
use Rattle.comb_order.proofs.graph.vectors_of.Given as goal

abbrev pub invariant-loop-row : goal.invariant-loop-row
invariant-loop-row l = rows_of l.vectors.items ≡ l.yielded
