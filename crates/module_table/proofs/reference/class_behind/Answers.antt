use Rattle.std.proofs.Common.{inl, inr}
use Rattle.type_index.specs.Sights.{table_of}
use Rattle.module_table.proofs.Leading.{field_behind, element_behind}
use Rattle.module_table.proofs.reference.class_behind.Goals as goal

pub returns-in-Field : goal.returns-in-Field
returns-in-Field c = field_behind (table_of c.args.classes.now) c.args.suffix.now c.in-Field.name c.args.class c.field.result c.in-Field.is c.field.ensures

pub returns-in-At : goal.returns-in-At
returns-in-At c = element_behind (table_of c.args.classes.now) c.args.suffix.now c.args.class c.element.result (λ name e. elim c.in-At.is as (λ _. ⊥) [ inl x ↦ let at = x.3 in cc | inr x ↦ let at = x.2 in cc ]) c.element.ensures
