use Rattle.std.proofs.Common.{◌≡◌, take, if◌then◌else◌}
use Rattle.std.specs.List.{list_any}
use Rattle.fir_meaning.specs.Components.{Leaf}
use Rattle.fir_meaning.specs.Certain.{may_be}
use Rattle.fir_meaning.specs.ClockRoot.{No_driver}
use Rattle.clock_check.specs.Driving.{driver_of, region_at}
use Rattle.clock_check.proofs.driving.undrive.Given as goal

abbrev pub invariant-loop-part : goal.invariant-loop-part
invariant-loop-part l = (leaf : Leaf) → driver_of l.drivers.known.entries leaf
    ≡ (if list_any (may_be l.side.1 (region_at l.side.0.now) leaf) (take l.part-index l.parts) then No_driver else driver_of l.fn.drivers.known.entries leaf)
