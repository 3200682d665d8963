use Rattle.std.proofs.Common.{subst, sym, ap, ◌∙◌}
use Rattle.std.specs.Prelude.{Some}
use Rattle.fir_types.specs.declared.fir_type.FirType.{FirType}
use Rattle.fir_tree.specs.Parts.{part_of}
use Rattle.type_index.specs.Sights.{table_of}
use Rattle.module_table.specs.declared.components.Noted.{Noted}
use Rattle.module_table.specs.Components.{AreClassed, with_part}
use Rattle.module_table.proofs.Noting.{all_classed, environment_with, has_class}
use Rattle.module_table.proofs.components.Components.note_declared.Goals as goal

pub invariant_of-self-2 : goal.invariant_of-self-2
invariant_of-self-2 c =
    let inside = c.self.inside in
    let noted : Noted = record { component = record { known = c.in_ok-known.known; flow = c.args.flow }; class = c.in_ok-class.class } in
    all_classed (table_of inside.modules.now.classes) inside.noted.entries c.insert_new.new.entries.entries c.args.name noted c.in_ok-insert_new.ensures.entries
    (has_class (table_of inside.modules.now.classes) c.in_ok-known.known.typ c.args.typ.now c.in_ok-class.class (c.in_ok-known.ensures.typ ∙ c.in_ok-copy.ensures) c.in_ok-class.ensures)
    c.self.invariant

pub returns : goal.returns
returns c =
    let inside = c.self.inside in
    let noted : Noted = record { component = record { known = c.in_ok-known.known; flow = c.args.flow }; class = c.in_ok-class.class } in
    environment_with inside.modules.now.all.now inside.noted.entries c.insert_new.new.entries.entries c.args.name noted c.args.self.now c.in_ok-insert_new.ensures.entries c.self.view_is
    ∙ ap (λ (typ : FirType). with_part c.args.self.now c.args.name (Some (part_of typ c.args.flow))) (c.in_ok-known.ensures.typ ∙ c.in_ok-copy.ensures)

pub invariant_of-self : goal.invariant_of-self
invariant_of-self c = subst (AreClassed (table_of c.self.inside.modules.now.classes)) (sym c.in_err-insert_new.ensures.unchanged) c.self.invariant
