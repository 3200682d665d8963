use Rattle.std.proofs.Common.{arith, map, drop, ◌+◌}
use Rattle.std.proofs.lemmas.Grind.{common_steps}
use Rattle.reset_resolution.specs.Layers.{suffix_step}
use Rattle.reset_resolution.proofs.Stepping.{along_none}
use Rattle.reset_resolution.proofs.steps.walk_steps.Goals as goal

pub returns-in-None : goal.returns-in-None
returns-in-None c = let e = along_none (map suffix_step (drop (c.loop-suffix.suffix-index + 1) c.args.suffixes.now)) in grind (arith, common_steps, e)
