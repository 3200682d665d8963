use Rattle.std.proofs.Common.{take}
use Rattle.plain_values.specs.Contents.{contents_of, leaves_of_seen}
use Rattle.plain_cycle.specs.Edges.{Beside, IsReadFrom}
use Rattle.plain_cycle.proofs.edge_memories.read_leaves.Given as goal

abbrev pub invariant-loop-leaf : goal.invariant-loop-leaf
invariant-loop-leaf l = Beside (IsReadFrom l.memory.memory.now (leaves_of_seen l.memory) (contents_of l.memory.leaves.now l.elements)) (take l.leaf-index l.leaves) l.values
