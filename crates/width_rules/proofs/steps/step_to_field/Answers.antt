use Rattle.std.proofs.Common.{rules}
use Rattle.width_rules.specs.Parts.{viewed}
use Rattle.width_rules.specs.Pieces.{slots_in}
use Rattle.width_rules.proofs.Indexing.{field_told, field_none}
use Rattle.width_rules.proofs.steps.step_to_field.Goals as goal

pub returns-in-Some : goal.returns-in-Some
returns-in-Some c =
    field_told c.args.name (viewed c.args.view) c.in-Some.part.field.now c.in-Some.part.place c.known-known.result.typ.now c.through.result c.known-known.result.index.now.places (slots_in c.slots_behind.result)
    (search rules) c.in-Some.ensures.place (search rules) (search rules) (search rules) (search rules) (search rules)

pub returns-in-None : goal.returns-in-None
returns-in-None c = field_none c.args.name (viewed c.args.view) (slots_in c.slots_past.result) (search rules) (search rules)
