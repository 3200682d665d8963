use Rattle.std.proofs.Common.{◌≡◌, take, if◌then◌else◌}
use Rattle.fir_meaning.specs.Components.{Leaf}
use Rattle.fir_meaning.specs.ClockRoot.{No_driver}
use Rattle.drive_check.specs.Keys.{is_among}
use Rattle.clock_check.specs.Driving.{driver_of}
use Rattle.clock_check.proofs.drivers.Drivers.cross.Given as goal

abbrev pub invariant-loop-key : goal.invariant-loop-key
invariant-loop-key l = (leaf : Leaf) → driver_of l.self.known.entries leaf ≡ (if is_among (take l.key-index l.key-items) leaf then No_driver else driver_of l.fn.self.known.entries leaf)
