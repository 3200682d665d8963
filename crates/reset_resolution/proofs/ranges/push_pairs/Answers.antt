use Rattle.std.proofs.Common.{arith, drop}
use Rattle.std.proofs.lemmas.Grind.{common_steps}
use Rattle.reset_resolution.proofs.Ranging.{pairs_left, pairs_right}
use Rattle.reset_resolution.proofs.ranges.push_pairs.Goals as goal

pub returns-in_default : goal.returns-in_default
returns-in_default c = let e = pairs_left (drop c.loop-ground.ground-index c.args.grounds.now) c.loop-ground.rights.now in grind (arith, common_steps, e)

pub returns-in_default-split_first : goal.returns-in_default-split_first
returns-in_default-split_first c = let e = pairs_right (drop c.loop-ground.ground-index c.args.grounds.now) c.loop-ground.lefts.now in grind (arith, common_steps, e)
