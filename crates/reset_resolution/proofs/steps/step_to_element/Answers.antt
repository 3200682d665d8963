use Rattle.std.proofs.Common.{arith}
use Rattle.std.proofs.lemmas.Grind.{common_steps}
use Rattle.reset_resolution.specs.Layers.{viewed}
use Rattle.reset_resolution.proofs.Stepping.{element_told}
use Rattle.reset_resolution.proofs.steps.step_to_element.Goals as goal

pub returns-in-Some : goal.returns-in-Some
returns-in-Some c = let e = element_told (viewed c.args.view) in grind (arith, common_steps, e)

pub returns-in-None : goal.returns-in-None
returns-in-None c = let e = element_told (viewed c.args.view) in grind (arith, common_steps, e)
