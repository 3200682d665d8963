use Rattle.std.proofs.Common.{◌≡◌, take}
use Rattle.plain_cycle.proofs.edge_memories.copied.Given as goal

abbrev pub invariant-loop-values : goal.invariant-loop-values
invariant-loop-values l = l.copy ≡ take l.values-index l.elements
