use Rattle.std.proofs.Common.{rules}
use Rattle.type_index.specs.Sights.{table_of}
use Rattle.type_index.proofs.Same.{field_answer}
use Rattle.type_index.proofs.classes.Classes.field.Goals as goal

pub returns : goal.returns
returns c =
    let self = c.args.self.now in
    field_answer (table_of self) self.elements.entries self.fields.entries self.next c.args.class c.args.id c.in_ok-inside.inside.now c.copied.result self.sound
    (search rules) (search rules)
