use Rattle.std.proofs.lemmas.Grind.{common_steps}
use Rattle.std.proofs.Common.{arith, ◌++◌, drop}
use Rattle.std.specs.Vec.Iter.{into_iter_items}
use Rattle.width_solver.specs.ByFlips.{connected_by}
use Rattle.width_solver.proofs.Flips.{ends_left, ends_right}
use Rattle.width_solver.proofs.driving.push_by_flips.Goals as goal

pub returns-in_default : goal.returns-in_default
returns-in_default c = ends_left (drop c.loop-flip.flip-index c.args.flips.now) (into_iter_items c.loop-flip.lefts) (into_iter_items c.loop-flip.rights) (c.args.rules.now.items ++ connected_by c.args.flips.now c.args.left.list c.args.right.list)
    c.loop-flip.rules.items c.loop-flip.invariant (grind (arith, common_steps))

pub returns-in_default-next : goal.returns-in_default-next
returns-in_default-next c = ends_right (drop c.loop-flip.flip-index c.args.flips.now) (into_iter_items c.loop-flip.lefts) (into_iter_items c.loop-flip.rights) (c.args.rules.now.items ++ connected_by c.args.flips.now c.args.left.list c.args.right.list)
    c.loop-flip.rules.items c.loop-flip.invariant (grind (arith, common_steps))
