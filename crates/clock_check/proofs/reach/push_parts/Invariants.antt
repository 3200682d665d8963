use Rattle.std.proofs.Common.{◌≡◌, ◌++◌, map, take}
use Rattle.drive_check.specs.Keys.{leaf_of_key}
use Rattle.clock_check.specs.Driving.{front_at}
use Rattle.clock_check.proofs.reach.push_parts.Given as goal

abbrev pub invariant-loop-way : goal.invariant-loop-way
invariant-loop-way l = map leaf_of_key l.keys.items ≡ map leaf_of_key l.fn.keys.items ++ front_at l.reach.component (take l.way-index l.way-items) l.part.path
