use Rattle.std.proofs.Common.{◌≡◌, map, slice_index, take}
use Rattle.flatten_instances.proofs.memories.flat_numbers.Given as goal

abbrev pub invariant-loop-leaf : goal.invariant-loop-leaf
invariant-loop-leaf l = l.flat ≡ map (slice_index l.numbers) (take l.leaf-index l.leaves)
