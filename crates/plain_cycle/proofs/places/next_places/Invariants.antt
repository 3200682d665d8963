use Rattle.std.proofs.Common.{◌≡◌, ◌≤◌, List, length}
use Rattle.std.specs.List.{flat_map}
use Rattle.fir_types.specs.declared.fir_type.FirType.{FirType}
use Rattle.plain_cycle.specs.Places.{stands_of}
use Rattle.plain_cycle.proofs.Modules.{bare_stands, zipped}
use Rattle.plain_cycle.proofs.places.next_places.Given as goal

-- whatever the types are
abbrev pub invariant-loop-at : goal.invariant-loop-at
invariant-loop-at l = (ts : List FirType) → l.at-end ≤ length ts → stands_of l.next.items ≡ flat_map (bare_stands l.place.path.items) (zipped l.declared ts l.at)
