use Rattle.std.proofs.Common.{◌≡◌, ◌++◌, drop}
use Rattle.std.specs.Vec.Iter.{into_iter_items}
use Rattle.width_rules.specs.Circuits.{node_rules}
use Rattle.width_solver.proofs.driving.push_node.Given as goal

abbrev pub invariant-loop-slot : goal.invariant-loop-slot
invariant-loop-slot l = l.fn.rules.items ++ node_rules l.slots l.fn.formulas.list ≡ l.rules.items ++ node_rules (drop l.slot-index l.slots) (into_iter_items l.sources)
