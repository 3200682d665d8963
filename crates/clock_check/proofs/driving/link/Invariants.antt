use Rattle.std.proofs.Common.{◌≡◌, map, take, zip}
use Rattle.fir_meaning.specs.Components.{Leaf}
use Rattle.drive_check.specs.Keys.{leaf_of_key}
use Rattle.clock_check.specs.Driving.{driver_of, region_at, linked}
use Rattle.clock_check.proofs.driving.link.Given as goal

abbrev pub invariant-loop-at : goal.invariant-loop-at
invariant-loop-at l = (leaf : Leaf) → driver_of l.drivers.known.entries leaf
    ≡ linked l.side.1 (region_at l.side.0.now) leaf (driver_of l.fn.drivers.known.entries leaf) (take l.at (zip l.parts (map leaf_of_key l.sources)))
