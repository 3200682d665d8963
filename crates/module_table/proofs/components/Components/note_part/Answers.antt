use Rattle.std.proofs.Common.{subst, sym, ap, ◌∙◌}
use Rattle.std.specs.Prelude.{Some}
use Rattle.fir_types.specs.declared.fir_type.FirType.{FirType}
use Rattle.fir_tree.specs.declared.part.Flow.TheVariants.{Source}
use Rattle.fir_tree.specs.Parts.{source_of}
use Rattle.type_index.specs.Sights.{table_of}
use Rattle.module_table.specs.declared.components.Noted.{Noted}
use Rattle.module_table.specs.Components.{AreClassed, Environment, with_part}
use Rattle.module_table.specs.Leading.{Leads}
use Rattle.module_table.proofs.Leading.{part_class}
use Rattle.module_table.proofs.Noting.{all_classed, environment_with}
use Rattle.module_table.proofs.components.Components.note_part.Goals as goal

pub invariant_of-self-2 : goal.invariant_of-self-2
invariant_of-self-2 c =
    let inside = c.self.inside in
    let noted : Noted = record { component = record { known = c.in_ok-known.known; flow = Source }; class = c.class_at-class.result } in
    all_classed (table_of inside.modules.now.classes) inside.noted.entries c.insert_new.new.entries.entries c.args.name noted c.in_ok-insert_new.ensures.entries
    (part_class (table_of inside.modules.now.classes) inside.noted.entries c.args.reference.name c.args.reference.suffixes.now c.in_ok-known.known.typ
    c.class_at-class.result c.self.invariant c.class_at-class.ensures (λ part leads. c.in_ok-known.ensures.typ ∙ sym (c.requires c.in-Some.part.typ.now c.in-Some.ensures)
    ∙ c.requires part (subst (λ (among : Environment). Leads among.parts c.args.reference.name c.args.reference.suffixes.now part) c.self.view_is leads)))
    c.self.invariant

pub returns : goal.returns
returns c =
    let inside = c.self.inside in
    let noted : Noted = record { component = record { known = c.in_ok-known.known; flow = Source }; class = c.class_at-class.result } in
    environment_with inside.modules.now.all.now inside.noted.entries c.insert_new.new.entries.entries c.args.name noted c.args.self.now c.in_ok-insert_new.ensures.entries c.self.view_is
    ∙ ap (λ (typ : FirType). with_part c.args.self.now c.args.name (Some (source_of typ))) (c.in_ok-known.ensures.typ ∙ sym (c.requires c.in-Some.part.typ.now c.in-Some.ensures))

pub invariant_of-self : goal.invariant_of-self
invariant_of-self c = subst (AreClassed (table_of c.self.inside.modules.now.classes)) (sym c.in_err-insert_new.ensures.unchanged) c.self.invariant
