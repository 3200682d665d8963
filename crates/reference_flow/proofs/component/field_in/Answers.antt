use Rattle.std.proofs.Common.{sym, ap, ◌∙◌, Some, None, rules}
use Rattle.fir_tree.specs.Parts.{part_of}
use Rattle.reference_flow.specs.Reached.{lent}
use Rattle.reference_flow.proofs.Stepping.{field-found}
use Rattle.reference_flow.proofs.component.field_in.Goals as goal

pub returns-in-Some : goal.returns-in-Some
returns-in-Some c =
    ap (part_of c.in-Some.field.now.typ) c.through.ensures
    ∙ sym (field-found (lent c.args.part) c.as_slice.result.now c.args.id (Some c.in-Some.field.now) (search rules) (search rules))

pub returns-in-None : goal.returns-in-None
returns-in-None c = sym (field-found (lent c.args.part) c.as_slice.result.now c.args.id None (search rules) (search rules))
