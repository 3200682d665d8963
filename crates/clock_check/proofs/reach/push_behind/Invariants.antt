use Rattle.std.proofs.Common.{◌≡◌, ◌++◌, take}
use Rattle.fir_meaning.specs.Mentions.{behind_each}
use Rattle.drive_check.specs.Keys.{step_of}
use Rattle.clock_check.specs.Driving.{ways_of}
use Rattle.clock_check.proofs.reach.push_behind.Given as goal

abbrev pub invariant-loop-way : goal.invariant-loop-way
invariant-loop-way l = ways_of l.next.items ≡ ways_of l.fn.next.items ++ behind_each (ways_of (take l.way-index l.ways)) (step_of l.step)
