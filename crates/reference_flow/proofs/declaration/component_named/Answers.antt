use Rattle.std.proofs.Common.{rules, sym, ap, ◌∙◌, inl, refl}
use Rattle.fir_tree.specs.Parts.{part_of}
use Rattle.reference_flow.proofs.Stepping.{plain-no_part}
use Rattle.reference_flow.proofs.Declaring.{component-port, body_found, nothing_found}
use Rattle.reference_flow.proofs.declaration.component_named.Goals as goal

pub returns-in-Some : goal.returns-in-Some
returns-in-Some c =
    inl (component-port c.args.modules.now c.args.holder.now c.args.id c.in-Some.port.now (search rules) ∙ ap (part_of c.in-Some.port.now.typ) (sym c.port_flow.ensures))

pub returns-in-Some-declared_among : goal.returns-in-Some-declared_among
returns-in-Some-declared_among c =
    body_found c.args.modules.now c.args.holder.now c.args.id c.in-Some-declared_among.reached (search rules)
    (rw (c.in-Some-declared_among.is, c.as_slice-2.ensures) at c.declared_among.ensures)

pub returns-in-None : goal.returns-in-None
returns-in-None c =
    rw (nothing_found c.args.modules.now c.args.holder.now c.args.id (search rules) (rw (c.in-None.is, c.as_slice-2.ensures) at c.declared_among.ensures)) (refl, plain-no_part)
