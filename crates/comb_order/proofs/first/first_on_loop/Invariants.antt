use Rattle.std.proofs.Common.{ℕ, ◌<◌}
use Rattle.comb_order.specs.Graph.{OnLoop}
use Rattle.comb_order.proofs.first.first_on_loop.Given as goal

abbrev pub invariant-loop-vertex : goal.invariant-loop-vertex
invariant-loop-vertex l = (y : ℕ) → y < l.vertex → OnLoop l.reads y → ⊥
