use Rattle.std.proofs.Common.{◌∙◌, ap, sym, Some, None, option_map}
use Rattle.std.specs.Option.{option_copied}
use Rattle.drive_check.specs.Keys.{leaf_of_key}
use Rattle.clock_check.proofs.Settings.{looked_up, copied_map}
use Rattle.clock_check.proofs.drivers.Drivers.source.Goals as goal

pub returns-in-Some : goal.returns-in-Some
returns-in-Some c =
    copied_map c.as_ref.result ∙ ap (option_map leaf_of_key) c.as_ref.ensures.value
    ∙ looked_up c.args.self.now.known.entries c.args.key.now (Some c.in-Some.source.now) (sym c.get.ensures.value ∙ ap option_copied c.in-Some.is)

pub returns-in-None : goal.returns-in-None
returns-in-None c = looked_up c.args.self.now.known.entries c.args.key.now None (sym c.get.ensures.value ∙ ap option_copied c.in-None.is)
