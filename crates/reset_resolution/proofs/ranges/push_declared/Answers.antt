use Rattle.std.proofs.Common.{arith}
use Rattle.std.proofs.lemmas.Grind.{common_steps}
use Rattle.reset_resolution.proofs.Ranging.{declared_more}
use Rattle.reset_resolution.proofs.ranges.push_declared.Goals as goal

pub loop-offset-preserved : goal.loop-offset-preserved
loop-offset-preserved c = let e = declared_more c.args.next.now c.loop-offset.offset in grind (arith, common_steps, e)
