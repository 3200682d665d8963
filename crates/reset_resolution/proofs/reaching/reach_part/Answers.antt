use Rattle.std.proofs.Common.{arith, map}
use Rattle.std.proofs.lemmas.Grind.{common_steps}
use Rattle.reset_resolution.specs.Layers.{suffix_step}
use Rattle.reset_resolution.proofs.Stepping.{along_none}
use Rattle.reset_resolution.proofs.reaching.reach_part.Goals as goal

pub returns-in_default : goal.returns-in_default
returns-in_default c = let e = along_none (map suffix_step c.args.suffixes.now) in grind (arith, common_steps, e)
