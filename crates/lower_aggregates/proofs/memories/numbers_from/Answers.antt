use Rattle.std.proofs.Common.{arith}
use Rattle.std.proofs.lemmas.Grind.{common_steps}
use Rattle.lower_aggregates.proofs.Porting.{range_more}
use Rattle.lower_aggregates.proofs.memories.numbers_from.Goals as goal

pub loop-step-preserved : goal.loop-step-preserved
loop-step-preserved c = let m = range_more c.args.first c.loop-step.step in grind (arith, common_steps, m)
