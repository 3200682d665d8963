use Rattle.drive_check.specs.HeldTypes.{types_in}
use Rattle.drive_check.proofs.Blocks.{on_ok}
use Rattle.clock_check.specs.Driving.{driver_of}
use Rattle.clock_check.proofs.Settings.{both_undriven}
use Rattle.clock_check.proofs.driving.invalidate.Goals as goal

pub returns : goal.returns
returns c =
    on_ok c.drive-2.result
    (λ h leaf has.
    both_undriven (types_in c.args.types.now) leaf c.args.target.now (driver_of c.args.drivers.now.known.entries leaf) (driver_of c.drive.new.drivers.known.entries leaf)
    (driver_of c.drive-2.new.drivers.known.entries leaf) (c.in_ok-drive.ensures leaf has) (h leaf has))
    c.drive-2.ensures
