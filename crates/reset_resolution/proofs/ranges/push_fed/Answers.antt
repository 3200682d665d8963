use Rattle.std.proofs.Common.{arith, drop}
use Rattle.std.proofs.lemmas.Grind.{common_steps}
use Rattle.reset_resolution.proofs.Ranging.{fed_none}
use Rattle.reset_resolution.proofs.ranges.push_fed.Goals as goal

pub returns-in_default : goal.returns-in_default
returns-in_default c = let e = fed_none (drop c.loop-source.source-index c.args.sources.now) in grind (arith, common_steps, e)
