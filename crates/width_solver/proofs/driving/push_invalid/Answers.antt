use Rattle.std.proofs.lemmas.Grind.{common_steps}
use Rattle.std.proofs.Common.{arith, ◌++◌, drop}
use Rattle.std.specs.Vec.Iter.{into_iter_items}
use Rattle.width_solver.specs.ByFlips.{invalidated_by}
use Rattle.width_solver.proofs.Flips.{ends_invalid}
use Rattle.width_solver.proofs.driving.push_invalid.Goals as goal

pub returns-in_default : goal.returns-in_default
returns-in_default c = ends_invalid c.args.flow (drop c.loop-flip.flip-index c.args.flips.now) (into_iter_items c.loop-flip.places) (c.args.rules.now.items ++ invalidated_by c.args.flow c.args.flips.now c.args.formulas)
    c.loop-flip.rules.items c.loop-flip.invariant (grind (arith, common_steps))
