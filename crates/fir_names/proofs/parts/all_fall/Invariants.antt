use Rattle.std.proofs.Common.{ℕ, ◌<◌}
use Rattle.fir_names.specs.declared.graph.Edge.{Edge}
use Rattle.fir_names.specs.Graphs.{Out, Falls}
use Rattle.fir_names.proofs.parts.all_fall.Given as goal

abbrev pub invariant-loop-from : goal.invariant-loop-from
invariant-loop-from l = (k : ℕ) (edge : Edge) → k < l.from → Out l.graph k edge → Falls l.ranks l.heads k edge.to
