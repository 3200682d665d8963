use Rattle.std.proofs.Common.{◌≡◌, ◌++◌, take, map, pos}
use Rattle.prim_ops.specs.Values.{fitted}
use Rattle.net_run.proofs.beginning.push_element.Given as goal

abbrev pub invariant-loop-leaf : goal.invariant-loop-leaf
invariant-loop-leaf l = l.held.items ≡ l.fn.held.items ++ map (λ leaf. fitted leaf.kind leaf.width (pos 0)) (take l.leaf-index l.memory.elements)
