use Rattle.std.proofs.Common.{◌≡◌, map, drop, Some}
use Rattle.reset_search.specs.Feeds.{along}
use Rattle.reset_resolution.specs.Layers.{suffix_step, viewed}
use Rattle.reset_resolution.proofs.steps.walk_steps.Given as goal

abbrev pub invariant-loop-suffix : goal.invariant-loop-suffix
invariant-loop-suffix l = along (map suffix_step l.suffixes) (Some l.component) ≡ along (map suffix_step (drop l.suffix-index l.suffixes)) (Some (viewed l.view))
