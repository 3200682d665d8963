use Rattle.std.proofs.Common.{arith}
use Rattle.std.proofs.lemmas.Grind.{common_steps}
use Rattle.reset_resolution.specs.Layers.{reached_as}
use Rattle.reset_resolution.proofs.Ranging.{connected_none}
use Rattle.reset_resolution.proofs.walk.feeds_between.Goals as goal

pub returns-then-is_empty : goal.returns-then-is_empty
returns-then-is_empty c = let e = connected_none (reached_as c.args.left.now) (reached_as c.args.right.now) in grind (arith, common_steps, e)
