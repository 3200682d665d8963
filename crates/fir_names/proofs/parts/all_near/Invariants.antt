use Rattle.std.proofs.Common.{ℕ, ◌<◌}
use Rattle.fir_names.specs.Graphs.{Nears}
use Rattle.fir_names.proofs.parts.all_near.Given as goal

abbrev pub invariant-loop-node : goal.invariant-loop-node
invariant-loop-node l = (k : ℕ) → k < l.node → Nears l.turned l.graph l.heads l.ways.far.items k
