use Rattle.std.proofs.Common.{rules, arith, ◌≡◌, ◌+◌, ◌∙◌, sym, subst}
use Rattle.std.specs.Prelude.{None}
use Rattle.std.specs.Map.{lookup}
use Rattle.std.proofs.Math.Logic.{∥∥₁_map}
use Rattle.std.proofs.lemmas.Grind.{common_steps}
use Rattle.type_index.specs.Numbers.{same_field}
use Rattle.type_index.specs.Tables.{IsSound}
use Rattle.type_index.proofs.Ordering.{fields_found, fields_after}
use Rattle.type_index.proofs.Sound.{table, sound_next, sound_bundle, keeps_bundles, either_way}
use Rattle.type_index.proofs.classes.Classes.note_bundle.Goals as goal

pub invariant_of-self : goal.invariant_of-self
invariant_of-self c =
    let self = c.args.self.now in
    let up : c.in_ok-self.field-0 ≡ self.next + 1 = grind (arith, common_steps) in
    let none : lookup (same_field c.args.key) self.bundles.entries ≡ None = sym (fields_found c.args.key self.bundles.entries) ∙ (search rules) in
    record {
      sound = either_way c.insert.result c.insert.ensures.updates c.insert.ensures.err
          (λ u. ∥∥₁_map self.sound (λ s. sound_bundle self.vectors.entries self.bundles.entries self.elements.entries self.fields.entries self.next c.in_ok-self.field-0
          c.insert.new.self.entries c.args.key up none (fields_after c.args.key self.next self.bundles.entries c.insert.new.self.entries u.0) s))
          (λ e. ∥∥₁_map self.sound (λ s. subst (λ bundles. IsSound (table self.vectors.entries bundles) self.elements.entries self.fields.entries c.in_ok-self.field-0)
          (sym e) (sound_next self.vectors.entries self.bundles.entries self.elements.entries self.fields.entries self.next c.in_ok-self.field-0 up s)));
    }

pub returns-clause-grows : goal.returns-clause-grows
returns-clause-grows c =
    let self = c.args.self.now in
    let none : lookup (same_field c.args.key) self.bundles.entries ≡ None = sym (fields_found c.args.key self.bundles.entries) ∙ (search rules) in
    keeps_bundles self.vectors.entries self.bundles.entries c.insert.new.self.entries c.args.key self.next none
    (fields_after c.args.key self.next self.bundles.entries c.insert.new.self.entries c.in_ok-insert.ensures.updates.0)

pub returns-in-Some-clause-number : goal.returns-in-Some-clause-number
returns-in-Some-clause-number c = sym (fields_found c.args.key c.args.self.now.bundles.entries) ∙ (search rules)

pub returns-clause-number : goal.returns-clause-number
returns-clause-number c = sym (fields_found c.args.key c.insert.new.self.entries) ∙ c.in_ok-insert.ensures.updates.1
