use Rattle.std.proofs.Common.{◌≡◌, take}
use Rattle.plain_values.specs.Contents.{stored_leaves}
use Rattle.plain_values.proofs.memory.stored_leaves.Given as goal

abbrev pub invariant-loop-leaf : goal.invariant-loop-leaf
invariant-loop-leaf l = l.stored ≡ stored_leaves (take l.leaf-index l.leaves)
