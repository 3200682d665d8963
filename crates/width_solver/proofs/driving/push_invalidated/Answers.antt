use Rattle.std.proofs.Common.{arith}
use Rattle.std.proofs.lemmas.Grind.{common_steps}
use Rattle.width_rules.specs.Places.{spots}
use Rattle.width_solver.proofs.Flips.{invalid_by_flips}
use Rattle.width_solver.proofs.driving.push_invalidated.Goals as goal

pub returns : goal.returns
returns c = let e = invalid_by_flips c.args.flow (spots c.args.typ.now) c.args.formulas in grind (arith, common_steps, e)
