use Rattle.std.proofs.Common.{arith, drop}
use Rattle.std.proofs.lemmas.Grind.{common_steps}
use Rattle.reset_resolution.proofs.Ranging.{asyncs_none}
use Rattle.reset_resolution.proofs.ranges.push_asyncs.Goals as goal

pub returns-in_default : goal.returns-in_default
returns-in_default c = let e = asyncs_none (drop c.loop-ground.ground-index c.args.grounds.now) in grind (arith, common_steps, e)
