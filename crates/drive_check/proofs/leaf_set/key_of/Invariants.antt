use Rattle.std.proofs.Common.{◌≡◌, ◌++◌, map, take}
use Rattle.drive_check.specs.Keys.{step_of}
use Rattle.drive_check.proofs.leaf_set.key_of.Given as goal

abbrev pub invariant-loop-step : goal.invariant-loop-step
invariant-loop-step l = map step_of l.whole.items ≡ map step_of l.way ++ take l.step-index l.path
