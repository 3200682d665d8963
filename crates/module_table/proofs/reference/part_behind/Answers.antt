use Rattle.std.proofs.Common.{rules, inl, inr}
use Rattle.module_table.proofs.Leading.{part_of_field, part_of_vector}
use Rattle.module_table.proofs.reference.part_behind.Goals as goal

pub returns-in_ok-found-in-Field : goal.returns-in_ok-found-in-Field
returns-in_ok-found-in-Field c =
    part_of_field c.args.suffix.now c.in-Field.name c.args.base.typ.now c.known.result.typ.now c.in_ok-found-in-Field.found.field.now c.in-Field.is (search rules)
    c.known.ensures.typ

pub returns-in-At : goal.returns-in-At
returns-in-At c =
    part_of_vector (λ part. part.typ.now) c.args.suffix.now c.args.base.typ.now c.element.result
    (λ name e. elim c.in-At.is as (λ _. ⊥) [ inl x ↦ let at = x.3 in cc | inr x ↦ let at = x.2 in cc ]) c.element.ensures.typ
