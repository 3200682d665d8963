use Rattle.std.proofs.lemmas.Grind.{common_steps}
use Rattle.std.proofs.Common.{arith, ◌++◌, drop}
use Rattle.std.specs.Vec.Iter.{into_iter_items}
use Rattle.width_rules.specs.Circuits.{node_rules}
use Rattle.width_solver.proofs.Flips.{ends_node}
use Rattle.width_solver.proofs.driving.push_node.Goals as goal

pub returns-in_default : goal.returns-in_default
returns-in_default c = ends_node (drop c.loop-slot.slot-index c.args.slots.now) (into_iter_items c.loop-slot.sources) (c.args.rules.now.items ++ node_rules c.args.slots.now c.args.formulas.list)
    c.loop-slot.rules.items c.loop-slot.invariant (grind (arith, common_steps))
