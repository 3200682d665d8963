use Rattle.std.proofs.Common.{◌∙◌, ap, if◌then◌else◌}
use Rattle.std.proofs.lemmas.List.{take_all}
use Rattle.fir_meaning.specs.ClockRoot.{No_driver}
use Rattle.drive_check.specs.Keys.{is_among}
use Rattle.clock_check.specs.Driving.{driver_of}
use Rattle.clock_check.proofs.Settings.{crossed}
use Rattle.clock_check.proofs.drivers.Drivers.cross.Goals as goal

pub returns : goal.returns
returns c = λ leaf.
    c.loop-key.invariant leaf
    ∙ ap (λ ks. if is_among ks leaf then No_driver else driver_of c.args.self.now.known.entries leaf)
    (take_all c.loop-key.key-index c.as_slice-key-items.result.now c.loop-key-test.false ∙ c.as_slice-key-items.ensures ∙ c.keys.ensures.rest)
    ∙ crossed c.args.branch.now.known.entries leaf (driver_of c.args.self.now.known.entries leaf)
