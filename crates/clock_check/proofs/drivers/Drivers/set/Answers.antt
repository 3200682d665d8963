use Rattle.std.proofs.Common.{◌∙◌, ap}
use Rattle.clock_check.specs.Driving.{driver_of}
use Rattle.clock_check.proofs.Settings.{set_one}
use Rattle.clock_check.proofs.drivers.Drivers.set.Goals as goal

pub returns : goal.returns
returns c = λ leaf. ap (λ es. driver_of es leaf) c.in_ok-insert.ensures.entries ∙ set_one c.args.self.now.known.entries c.args.key c.args.source leaf
