use Rattle.std.proofs.Common.{sym, ap, ◌∙◌, Some, None, rules, inl}
use Rattle.fir_tree.specs.Parts.{part_of}
use Rattle.reference_flow.proofs.Stepping.{field-port}
use Rattle.reference_flow.proofs.component.field_of_instance.Goals as goal

pub returns-in-Some : goal.returns-in-Some
returns-in-Some c =
    inl (field-port c.args.ports.now c.args.id (Some c.in-Some.port.now) (search rules) ∙ ap (part_of c.in-Some.port.now.typ) (sym c.through.ensures))

pub returns-in-None : goal.returns-in-None
returns-in-None c = field-port c.args.ports.now c.args.id None (search rules)
