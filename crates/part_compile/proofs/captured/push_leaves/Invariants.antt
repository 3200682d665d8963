use Rattle.std.proofs.Common.{◌≡◌, ◌++◌, take, map}
use Rattle.part_compile.proofs.captured.push_leaves.Given as goal

abbrev pub invariant-loop-leaf : goal.invariant-loop-leaf
invariant-loop-leaf l = l.reads ≡ l.fn.reads ++ map (λ x. record { memory = l.memory; leaf = x }) (take l.leaf-index l.leaves)
