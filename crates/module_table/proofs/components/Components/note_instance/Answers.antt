use Rattle.std.proofs.Common.{◌≡◌, List, refl, subst, sym, ap, ◌∙◌}
use Rattle.std.specs.Prelude.{Some}
use Rattle.fir_types.specs.declared.fir_type.FirType.{FirType}
use Rattle.fir_tree.specs.declared.circuit.Module.{Module}
use Rattle.fir_tree.specs.declared.part.Flow.TheVariants.{Source}
use Rattle.fir_tree.specs.Parts.{source_of, instance_in}
use Rattle.type_index.specs.Sights.{table_of}
use Rattle.module_table.specs.declared.components.Noted.{Noted}
use Rattle.module_table.specs.Components.{AreClassed, Environment, with_part}
use Rattle.module_table.specs.Tables.{named}
use Rattle.module_table.proofs.Noting.{all_classed, environment_with, instance_known, shared_class}
use Rattle.module_table.proofs.components.Components.note_instance.Goals as goal

pub invariant_of-self-2 : goal.invariant_of-self-2
invariant_of-self-2 c =
    let inside = c.self.inside in
    let noted : Noted = record { component = record { known = c.in_ok-known.known; flow = Source }; class = c.in-Some.instance.now.class } in
    all_classed (table_of inside.modules.now.classes) inside.noted.entries c.insert_new.new.entries.entries c.args.name noted c.in_ok-insert_new.ensures.entries
    (shared_class inside.modules.now.names.now (table_of inside.modules.now.classes) c.in-Some.instance.now noted c.in-Some.ensures.known refl c.in_ok-known.ensures.typ)
    c.self.invariant

pub returns : goal.returns
returns c =
    let inside = c.self.inside in
    let noted : Noted = record { component = record { known = c.in_ok-known.known; flow = Source }; class = c.in-Some.instance.now.class } in
    let modules : List Module = inside.modules.now.all.now in
    let same : modules ≡ c.args.self.now.modules = ap (λ (among : Environment). among.modules) c.self.view_is in
    environment_with modules inside.noted.entries c.insert_new.new.entries.entries c.args.name noted c.args.self.now c.in_ok-insert_new.ensures.entries c.self.view_is
    ∙ ap (with_part c.args.self.now c.args.name)
    (ap (λ (typ : FirType). Some (source_of typ)) c.in_ok-known.ensures.typ
    ∙ instance_known (named modules c.args.target) c.in-Some.instance.now c.in-Some.ensures.typ ∙ ap (λ (all : List Module). instance_in all c.args.target) same)

pub invariant_of-self : goal.invariant_of-self
invariant_of-self c = subst (AreClassed (table_of c.self.inside.modules.now.classes)) (sym c.in_err-insert_new.ensures.unchanged) c.self.invariant
