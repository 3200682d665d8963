use Rattle.std.proofs.Common.{◌≡◌, ◌++◌, take}
use Rattle.std.specs.List.{flat_map}
use Rattle.clock_check.specs.Flats.{is_within}
use Rattle.one_clock.specs.Judged.{hung_faults}
use Rattle.one_clock.proofs.judging.push_place.Given as goal

abbrev pub invariant-loop-hung : goal.invariant-loop-hung
invariant-loop-hung l = l.faults.items ≡ l.fn.faults.items ++ flat_map (hung_faults (is_within l.rooted.keys.keys) l.clocks.targets.entries l.place.path.items) (take l.hung-index l.hung-items)
