use Rattle.std.proofs.Common.{◌≡◌, take, List}
use Rattle.std.specs.List.{flat_map}
use Rattle.reset_search.specs.declared.spot.Spot.{Spot}
use Rattle.reset_resolution.proofs.gathering.joined.Given as goal

abbrev pub invariant-loop-own : goal.invariant-loop-own
invariant-loop-own l = l.spots ≡ flat_map (λ (spots : List Spot). spots) (take l.own-index l.ports)
