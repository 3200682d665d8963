-- What a well formed circuit keeps stands apart, where it does in the memories that have no ports.
use Rattle.std.proofs.Common.{◌≡◌, ℕ, Some, sym, ap, ◌∙◌, slice_get}
use Rattle.fir_tree.specs.declared.scope.Fitted.{Fitted}
use Rattle.fir_meaning.specs.Components.{Component, declarations_of, design_of}
use Rattle.fir_meaning.proofs.Ports.{component_found}
use Rattle.fir_names.proofs.Members.{Contains-get}
use Rattle.circuit_laws.specs.WellFormed.{IsWellFormed}
use Rattle.circuit_laws.proofs.Reached.{known_module}
use Rattle.circuit_laws.proofs.Scoping.{declared_once}
use Rattle.net_laws.proofs.Lists.{map_at}
use Rattle.circuit_texts.specs.Apart.{StoresApart, KeepsApart}
use Rattle.circuit_texts.proofs.Elements.{elements_differ}

pub keeps_apart : (fitted : Fitted) → IsWellFormed fitted → StoresApart (design_of fitted) → KeepsApart (design_of fitted)
keeps_apart fitted well stored = record {
  components = λ path m j k c d reached e f name.
      let it = known_module fitted well path m reached in
      let at : (i : ℕ) (x : Component) → slice_get m.components i ≡ Some x → slice_get (declarations_of it.holder) i ≡ Some x.declaration = λ i x h.
      ap (λ l. slice_get l i) (sym it.typed.components) ∙ map_at (λ (y : Component). y.declaration) m.components i x h in
      declared_once fitted.checked.resolved well.names it.holder (Contains-get fitted.checked.resolved.modules it.k it.holder it.here) j k c.declaration d.declaration (at j c e) (at k d f) name;
  elements = λ path m c memory typ j k a b reached declared sort of e f same.
      let it = known_module fitted well path m reached in
      let among = (component_found m c.declaration.name c declared).1 in
      elements_differ c memory typ of (λ i n x y g h way. it.typed.ways c i n x y among g h way) (λ none i n x y g h way. stored path m c memory i n x y reached declared sort none g h way) j k a b e f same;
}
