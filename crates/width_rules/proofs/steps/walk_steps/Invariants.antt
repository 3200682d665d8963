use Rattle.std.proofs.Common.{◌≡◌, map, take}
use Rattle.width_rules.specs.Sources.{named, suffix_step}
use Rattle.width_rules.specs.Parts.{viewed}
use Rattle.width_rules.proofs.steps.walk_steps.Given as goal

abbrev pub invariant-loop-suffix : goal.invariant-loop-suffix
invariant-loop-suffix l = viewed l.view ≡ named (map suffix_step (take l.suffix-index l.suffixes)) l.component
