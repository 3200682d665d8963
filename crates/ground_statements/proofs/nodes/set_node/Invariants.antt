use Rattle.std.proofs.Common.{◌≡◌, ◌++◌, drop}
use Rattle.std.specs.Vec.Iter.{into_iter_items}
use Rattle.ground_statements.specs.Nodes.{node_leaves}
use Rattle.ground_statements.proofs.nodes.set_node.Given as goal

abbrev pub invariant-loop-leaf : goal.invariant-loop-leaf
invariant-loop-leaf l = l.made ++ node_leaves l.number (drop l.leaf-index l.leaves) (into_iter_items l.others) ≡ node_leaves l.fn.first l.leaves l.fn.sources
