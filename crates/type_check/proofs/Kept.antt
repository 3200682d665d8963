-- The components that are known.
use Rattle.std.proofs.Common.{◌≡◌, ℕ, refl, sym, ap, ◌∙◌, append-nil}
use Rattle.std.specs.Prelude.{Option, Some, None}
use Rattle.fir_tree.specs.declared.part.Part.{Part}
use Rattle.module_table.specs.Components.{Parts, Environment, parts_with, with_part}
use Rattle.type_check.specs.declared.walk.Walk.{Walk}
use Rattle.type_check.specs.Parts.{known_with}
use Rattle.type_check.specs.Statements.{declares}
use Rattle.type_check.specs.Walks.{Walks}

one_more : (parts : Parts) (name : ℕ) (part : Option Part) → parts_with parts name part ≡ known_with parts name part
one_more parts name (Some part) = refl
one_more parts name None = refl

-- a component is declared
pub walks_declared : (name : ℕ) (part : Option Part) {a b : Walk} → b.known ≡ with_part a.known name part → b.found.types.items ≡ a.found.types.items
    → b.found.faults.items ≡ a.found.faults.items → Walks (declares name part) a b
walks_declared name part {a} {b} known types faults = record {
  modules = ap (λ (among : Environment). among.modules) known;
  known = ap (λ (among : Environment). among.parts) known ∙ one_more a.known.parts name part;
  types = types ∙ sym (append-nil _);
  faults = faults ∙ sym (append-nil _);
}
