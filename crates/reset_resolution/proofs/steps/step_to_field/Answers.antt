use Rattle.std.proofs.Common.{rules}
use Rattle.reset_resolution.specs.Layers.{viewed}
use Rattle.reset_resolution.proofs.Stepping.{field_told, field_none}
use Rattle.reset_resolution.proofs.steps.step_to_field.Goals as goal

pub returns-in-Some : goal.returns-in-Some
returns-in-Some c =
    field_told c.args.name (viewed c.args.view) c.in-Some.part.field.now c.in-Some.part.place c.known-known.result.typ.now c.known-known.result.index.now.places c.between-spots.result.now
    (search rules) c.in-Some.ensures.place (search rules) (search rules) (search rules) (search rules)

pub returns-in-None : goal.returns-in-None
returns-in-None c = field_none c.args.name (viewed c.args.view) (search rules)
