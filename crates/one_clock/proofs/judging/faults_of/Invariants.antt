use Rattle.std.proofs.Common.{◌≡◌, take}
use Rattle.std.specs.List.{flat_map}
use Rattle.clock_check.specs.Flats.{is_within}
use Rattle.one_clock.specs.Judged.{place_faults}
use Rattle.one_clock.proofs.judging.faults_of.Given as goal

abbrev pub invariant-loop-place : goal.invariant-loop-place
invariant-loop-place l = l.faults.items ≡ flat_map (place_faults l.table.entries (is_within l.rooted.keys.keys)) (take l.place-index l.places)
