use Rattle.std.proofs.Common.{sym, subst}
use Rattle.std.proofs.Math.Logic.{∥∥₁_map, ∥∥₁_elim}
use Rattle.type_index.specs.Sights.{table_of}
use Rattle.type_index.specs.Tables.{IsSound}
use Rattle.type_index.proofs.Sound.{sound_fields, either_way}
use Rattle.type_index.proofs.classes.Classes.note_fields.Goals as goal

pub invariant_of-self : goal.invariant_of-self
invariant_of-self c =
    let self = c.args.self.now in
    record {
      sound = either_way c.insert.result c.insert.ensures.updates c.insert.ensures.err
          (λ u. ∥∥₁_elim c.requires squash₁ (λ parts. ∥∥₁_map self.sound (λ s. sound_fields self.vectors.entries self.bundles.entries self.elements.entries self.fields.entries
          self.next self.next c.insert.new.self.entries c.args.class c.args.inside parts u.0 s)))
          (λ e. subst (λ fields. ∥ IsSound (table_of self) self.elements.entries fields self.next ∥₁) (sym e) self.sound);
    }
