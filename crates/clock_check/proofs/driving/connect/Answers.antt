use Rattle.std.proofs.Common.{◌∙◌, ap, map}
use Rattle.drive_check.specs.HeldTypes.{types_in}
use Rattle.drive_check.specs.Keys.{leaf_of_key}
use Rattle.drive_check.proofs.Blocks.{on_ok}
use Rattle.clock_check.specs.Driving.{driver_of}
use Rattle.clock_check.proofs.Settings.{both_driven}
use Rattle.clock_check.proofs.driving.connect.Goals as goal

pub returns : goal.returns
returns c =
    on_ok c.drive-2.result
    (λ h leaf has.
    both_driven (types_in c.args.types.now) leaf c.args.left.now c.args.right.now (driver_of c.args.drivers.now.known.entries leaf) (driver_of c.drive.new.drivers.known.entries leaf)
    (driver_of c.drive-2.new.drivers.known.entries leaf) (map leaf_of_key c.as_slice.result.now) (map leaf_of_key c.as_slice-2.result.now)
    (ap (map leaf_of_key) c.as_slice.ensures.value ∙ c.in_ok-of_left.ensures) (ap (map leaf_of_key) c.as_slice-2.ensures.value ∙ c.in_ok-of_right.ensures)
    (c.in_ok-drive.ensures leaf has) (h leaf has))
    c.drive-2.ensures
