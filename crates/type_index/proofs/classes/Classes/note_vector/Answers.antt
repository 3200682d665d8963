use Rattle.std.proofs.Common.{rules, arith, ◌≡◌, ◌+◌, ◌∙◌, sym, subst}
use Rattle.std.specs.Prelude.{None, Some}
use Rattle.std.specs.Map.{lookup}
use Rattle.std.proofs.Math.Logic.{∥∥₁_map}
use Rattle.std.proofs.lemmas.Grind.{common_steps}
use Rattle.type_index.specs.Numbers.{same_vector}
use Rattle.type_index.specs.Tables.{IsSound}
use Rattle.type_index.proofs.Ordering.{vectors_found, vectors_after}
use Rattle.type_index.proofs.Sound.{table, sound_next, sound_vector, sound_element, keeps_vectors, either_way}
use Rattle.type_index.proofs.classes.Classes.note_vector.Goals as goal

pub invariant_of-self : goal.invariant_of-self
invariant_of-self c =
    let self = c.args.self.now in
    let up : c.in_ok-self.field-0 ≡ self.next + 1 = grind (arith, common_steps) in
    record {
      sound = ∥∥₁_map self.sound (λ s. subst (λ vectors. IsSound (table vectors self.bundles.entries) self.elements.entries self.fields.entries c.in_ok-self.field-0)
          (sym c.in_err-insert.ensures.err)
          (sound_next self.vectors.entries self.bundles.entries self.elements.entries self.fields.entries self.next c.in_ok-self.field-0 up s));
    }

pub invariant_of-self-2 : goal.invariant_of-self-2
invariant_of-self-2 c =
    let self = c.args.self.now in
    let vectors = c.insert.new.self.entries in
    let after = c.in_ok-self.field-0 in
    let up : after ≡ self.next + 1 = grind (arith, common_steps) in
    let none : lookup (same_vector c.args.key) self.vectors.entries ≡ None = sym (vectors_found c.args.key self.vectors.entries) ∙ (search rules) in
    let at : lookup (same_vector c.args.key) vectors ≡ Some self.next = sym (vectors_found c.args.key vectors) ∙ c.in_ok-insert.ensures.updates.1 in
    record {
      sound = ∥∥₁_map self.sound (λ s.
          let t = sound_vector self.vectors.entries self.bundles.entries self.elements.entries self.fields.entries self.next after
          vectors c.args.key up none (vectors_after c.args.key self.next self.vectors.entries vectors c.in_ok-insert.ensures.updates.0) s in
          either_way c.insert-2.result c.insert-2.ensures.updates c.insert-2.ensures.err
          (λ u. sound_element vectors self.bundles.entries self.elements.entries self.fields.entries after after c.insert-2.new.self.entries self.next c.args.key.element
          c.args.key.length at u.0 t)
          (λ e. subst (λ elements. IsSound (table vectors self.bundles.entries) elements self.fields.entries after) (sym e) t));
    }

pub returns-in_err-insert-2 : goal.returns-in_err-insert-2
returns-in_err-insert-2 c =
    let self = c.args.self.now in
    let none : lookup (same_vector c.args.key) self.vectors.entries ≡ None = sym (vectors_found c.args.key self.vectors.entries) ∙ (search rules) in
    keeps_vectors self.vectors.entries c.insert.new.self.entries self.bundles.entries c.args.key self.next none
    (vectors_after c.args.key self.next self.vectors.entries c.insert.new.self.entries c.in_ok-insert.ensures.updates.0)

pub returns : goal.returns
returns c =
    let self = c.args.self.now in
    let none : lookup (same_vector c.args.key) self.vectors.entries ≡ None = sym (vectors_found c.args.key self.vectors.entries) ∙ (search rules) in
    keeps_vectors self.vectors.entries c.insert.new.self.entries self.bundles.entries c.args.key self.next none
    (vectors_after c.args.key self.next self.vectors.entries c.insert.new.self.entries c.in_ok-insert.ensures.updates.0)
