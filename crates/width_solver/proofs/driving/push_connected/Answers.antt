use Rattle.std.proofs.Common.{arith}
use Rattle.std.proofs.lemmas.Grind.{common_steps}
use Rattle.width_rules.specs.Places.{spots}
use Rattle.width_solver.proofs.Flips.{by_flips}
use Rattle.width_solver.proofs.driving.push_connected.Goals as goal

pub returns : goal.returns
returns c = let e = by_flips (spots c.args.typ.now) c.args.left.list c.args.right.list in grind (arith, common_steps, e)
