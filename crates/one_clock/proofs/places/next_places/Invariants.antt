use Rattle.std.proofs.Common.{◌≡◌, take}
use Rattle.std.specs.List.{flat_map}
use Rattle.one_clock.specs.Stands.{stands_of, instance_stands}
use Rattle.one_clock.proofs.places.next_places.Given as goal

abbrev pub invariant-loop-instance : goal.invariant-loop-instance
invariant-loop-instance l = stands_of l.next.items ≡ flat_map (instance_stands l.clocks.targets.entries l.place.path.items) (take l.instance-index l.instance-items)
