use Rattle.std.proofs.Common.{◌∙◌, ap, ap₂, sym, map}
use Rattle.std.specs.Option.{option_copied}
use Rattle.drive_check.specs.Keys.{step_of}
use Rattle.clock_check.specs.Enters.{port_into}
use Rattle.clock_check.proofs.flat_key.port_of.Goals as goal

pub returns-in-Some : goal.returns-in-Some
returns-in-Some c =
    c.first_field.ensures c.in-Some.field-0.now ∙ ap₂ port_into (sym (ap option_copied c.in-Some.is) ∙ c.get.ensures.value) (ap (map step_of) c.as_slice.ensures.value)

pub returns-in-None : goal.returns-in-None
returns-in-None c = ap (λ o. port_into o (map step_of c.args.leaf.now.way.items)) (sym (ap option_copied c.in-None.is) ∙ c.get.ensures.value)
