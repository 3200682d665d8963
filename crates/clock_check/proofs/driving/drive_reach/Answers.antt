use Rattle.std.proofs.Common.{◌∙◌, ap, map, zip, if◌then◌else◌}
use Rattle.std.specs.List.{list_any}
use Rattle.fir_meaning.specs.Certain.{may_be}
use Rattle.fir_meaning.specs.ClockRoot.{No_driver}
use Rattle.drive_check.specs.Keys.{leaf_of_key}
use Rattle.drive_check.proofs.Blocks.{on_ok}
use Rattle.clock_check.specs.Driving.{driver_of, region_at, linked}
use Rattle.clock_check.proofs.Settings.{side_linked}
use Rattle.clock_check.proofs.driving.drive_reach.Goals as goal

pub returns : goal.returns
returns c =
    let flip = c.args.side.1 in
    let region = region_at c.args.side.0.now in
    let sources = map leaf_of_key c.args.sources.now in
    on_ok c.link.result
    (λ h leaf.
    side_linked flip region leaf (driver_of c.args.drivers.now.known.entries leaf) (driver_of c.undrive.new.drivers.known.entries leaf) (driver_of c.link.new.drivers.known.entries leaf)
    sources c.if-side.false
    (c.in_ok-undrive.ensures leaf
    ∙ ap (λ ls. if list_any (may_be flip region leaf) ls then No_driver else driver_of c.args.drivers.now.known.entries leaf) (c.as_slice.ensures.value ∙ c.in_ok-leaves.ensures))
    (h leaf ∙ ap (λ ls. linked flip region leaf (driver_of c.undrive.new.drivers.known.entries leaf) (zip ls sources)) (c.as_slice-2.ensures.value ∙ c.in_ok-leaves.ensures)))
    c.link.ensures
