use Rattle.std.proofs.Common.{◌∙◌, map, subst}
use Rattle.fir_meaning.specs.Mentions.{region_of}
use Rattle.drive_check.specs.HeldTypes.{types_in}
use Rattle.drive_check.specs.Keys.{leaf_of_key}
use Rattle.drive_check.proofs.Blocks.{on_ok}
use Rattle.clock_check.specs.Driving.{driver_of, Reaches}
use Rattle.fir_meaning.specs.Certain.{may_name}
use Rattle.fir_meaning.specs.ClockRoot.{source_for}
use Rattle.clock_check.proofs.Settings.{side_at, side_none, unnamed}
use Rattle.clock_check.proofs.driving.drive.Goals as goal

pub returns-in-Some : goal.returns-in-Some
returns-in-Some c =
    let o = region_of (types_in c.args.types.now) c.args.sink.0.now in
    on_ok c.drive_reach.result
    (λ h leaf has. h leaf ∙ side_at o c.in-Some.reach (subst (Reaches o) c.in-Some.is c.in_ok-reach.ensures) c.args.sink.1 leaf (map leaf_of_key c.args.sources.now)
    (driver_of c.args.drivers.now.known.entries leaf))
    c.drive_reach.ensures

pub returns-in-None : goal.returns-in-None
returns-in-None c = λ leaf has.
    let o = region_of (types_in c.args.types.now) c.args.sink.0.now in
    unnamed (may_name c.args.sink.1 o leaf) (source_for c.args.sink.1 leaf o (map leaf_of_key c.args.sources.now)) (driver_of c.args.drivers.now.known.entries leaf)
    (side_none o (subst (Reaches o) c.in-None.is c.in_ok-reach.ensures) c.args.sink.1 leaf)
