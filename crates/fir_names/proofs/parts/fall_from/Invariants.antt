use Rattle.std.proofs.Common.{take}
use Rattle.std.specs.Prelude.{Contains}
use Rattle.fir_names.specs.declared.graph.Edge.{Edge}
use Rattle.fir_names.specs.Graphs.{Falls}
use Rattle.fir_names.proofs.parts.fall_from.Given as goal

abbrev pub invariant-loop-edge : goal.invariant-loop-edge
invariant-loop-edge l = (edge : Edge) → Contains (take l.edge-index l.out) edge → Falls l.ranks l.heads l.from edge.to
