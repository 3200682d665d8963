-- In an accepted circuit each component of the run stands once in its flat order. So it has one cut.
use Rattle.std.proofs.Common.{◌≡◌, ℕ, List, [], Some, option_and_then, refl, sym, ap, ◌∙◌}
use Rattle.std.specs.List.{slice_get}
use Rattle.fir_tree.specs.declared.scope.Fitted.{Fitted}
use Rattle.fir_meaning.specs.Components.{TypedModule, Component, module_at, module_within, module_named, declarations_of, design_of}
use Rattle.fir_tree.specs.LeafNames.{Texts}
use Rattle.circuit_laws.specs.WellFormed.{IsWellFormed}
use Rattle.circuit_laws.proofs.Reached.{known_module}
use Rattle.circuit_laws.proofs.Scoping.{declared_once}
use Rattle.net_of_circuit.specs.FlatOrder.{Placed, InFlatOrder}
use Rattle.net_of_circuit.specs.NetOf.{IsNetOf}
use Rattle.ground_net.specs.declared.net.Net.{Net}
use Rattle.net_laws.specs.Serves.{Serves}
use Rattle.net_laws.proofs.Accepted.{lists_leaves, is_typed}
use Rattle.net_laws.proofs.Lists.{map_at}
use Rattle.net_laws.proofs.Once.{Apart, entries_once}
use Rattle.cut_listing.specs.CircuitCuts.{IsCutText, StandOnce}
use Rattle.cut_listing.proofs.Texts.{one_text}
use Rattle.fir_names.proofs.Members.{Contains-get}

modules_apart : (fitted : Fitted) (well : IsWellFormed fitted) (path : List ℕ) (m : TypedModule) → module_at (design_of fitted) path ≡ Some m → Apart m.components
modules_apart fitted well path m e j k c d f g name =
    let it = known_module fitted well path m e in
    let at : (i : ℕ) (x : Component) → slice_get m.components i ≡ Some x → slice_get (declarations_of it.holder) i ≡ Some x.declaration = λ i x h.
    ap (λ l. slice_get l i) (sym it.typed.components) ∙ map_at (λ y. y.declaration) m.components i x h in
    declared_once fitted.checked.resolved well.names it.holder (Contains-get fitted.checked.resolved.modules it.k it.holder it.here) j k c.declaration d.declaration (at j c f) (at k d g) name

pub stand_once : (fitted : Fitted) (well : IsWellFormed fitted) (main : TypedModule) → module_named (design_of fitted) (design_of fitted).main ≡ Some main → (placed : List Placed)
    → InFlatOrder (design_of fitted) [] main main.components placed → StandOnce placed
stand_once fitted well main found placed order j k p e f =
    let reached : module_at (design_of fitted) [] ≡ Some main = ap (option_and_then (λ m. module_within (design_of fitted) m [])) found in
    entries_once (design_of fitted) well.bundles (modules_apart fitted well) [] main main.components order reached (λ c h. h) (modules_apart fitted well [] main reached) j k p p e f refl refl

-- a net of a well formed circuit serves it
abbrev its_net_serves : (texts : Texts) (fitted : Fitted) (net : Net) → IsWellFormed fitted → IsNetOf texts (design_of fitted) net → Serves texts (design_of fitted) net
its_net_serves texts fitted net well of = record { of = of; lists = lists_leaves fitted well of.main of.found of.placed of.order; has = well.bundles; typed = is_typed fitted well }

pub one_cut : (texts : Texts) (fitted : Fitted) → IsWellFormed fitted → (workers : ℕ) (bytes other : List ℕ) → IsCutText texts (design_of fitted) workers bytes → IsCutText texts (design_of fitted) workers other
    → bytes ≡ other
one_cut texts fitted well workers bytes other a b =
    one_text texts (design_of fitted) a.net (its_net_serves texts fitted a.net well a.is) (stand_once fitted well a.is.main a.is.found a.is.placed a.is.order) workers bytes other a b
