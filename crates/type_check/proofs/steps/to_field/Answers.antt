use Rattle.std.proofs.Common.{rules, refl, ap, ap₂, sym, append-nil, ◌∙◌, ◌++◌}
use Rattle.std.specs.Prelude.{Some}
use Rattle.fir_tree.specs.Parts.{part_of}
use Rattle.type_check.specs.Judging.{part_at}
use Rattle.type_check.proofs.Ways.{first_field}
use Rattle.type_check.proofs.steps.to_field.Goals as goal

pub returns-in-Some-clause-part : goal.returns-in-Some-clause-part
returns-in-Some-clause-part c =
    let is = first_field c.args.name (part_at c.args.base) c.args.base.known.typ.now c.in-Some.found.field.now refl (search rules) in
    ap₂ (λ typ flow. Some (part_of typ flow)) c.known.ensures.typ c.through.ensures ∙ ap (λ j. j.part) (sym is)

pub returns-in-Some-clause-faults : goal.returns-in-Some-clause-faults
returns-in-Some-clause-faults c =
    let is = first_field c.args.name (part_at c.args.base) c.args.base.known.typ.now c.in-Some.found.field.now refl (search rules) in
    sym (append-nil c.args.faults.now.items) ∙ ap (λ j. c.args.faults.now.items ++ j.faults) (sym is)
