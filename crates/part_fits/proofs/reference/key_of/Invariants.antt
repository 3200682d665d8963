use Rattle.std.proofs.Common.{◌≡◌, map, take}
use Rattle.width_rules.specs.Sources.{suffix_step}
use Rattle.part_fits.specs.Seen.{step_to}
use Rattle.part_fits.proofs.reference.key_of.Given as goal

abbrev pub invariant-loop-suffix : goal.invariant-loop-suffix
invariant-loop-suffix l = map step_to l.steps.items ≡ map suffix_step (take l.suffix-index l.suffixes)
