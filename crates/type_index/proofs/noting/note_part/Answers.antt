use Rattle.type_index.specs.declared.keys.FieldKey.{FieldKey}
use Rattle.type_index.specs.Sights.{table_of}
use Rattle.type_index.proofs.Sound.{parts_before}
use Rattle.type_index.proofs.noting.note_part.Goals as goal

pub returns-clause-parts : goal.returns-clause-parts
returns-clause-parts c =
    let key : FieldKey = record { name = c.args.part.name; flip = c.args.part.flip; class = c.args.part.class; after = c.args.after } in
    parts_before (table_of c.args.classes.now) (table_of c.note_bundle.new.self) key c.in_ok-number.number c.args.inside.now.numbers.entries c.insert.new.self.entries
    c.in_ok-number.ensures.grows (rw c.before-2.ensures at c.in_ok-number.ensures.number) c.in_ok-insert.ensures.updates.0
