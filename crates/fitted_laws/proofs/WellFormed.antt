-- An accepted circuit is well formed.
use Rattle.std.proofs.Common.{◌≡◌, ℕ, List, map, Some, sym, ap, ◌∙◌, subst, slice_get, true}
use Rattle.std.specs.Prelude.{Contains, find, option_map, ◌==◌}
use Rattle.std.specs.List.{flat_map}
use Rattle.std.proofs.lemmas.Option.{slice_get_within}
use Rattle.fir_types.specs.declared.fir_type.FirType.{FirType}
use Rattle.fir_types.specs.declared.memory.Memory.{Memory}
use Rattle.fir_types.specs.Leaves.{leaves}
use Rattle.fir_types.specs.Bundles.{instance_of}
use Rattle.fir_tree.specs.declared.circuit.Circuit.{Circuit}
use Rattle.fir_tree.specs.declared.circuit.Module.{Module}
use Rattle.fir_tree.specs.declared.scope.Fitted.{Fitted}
use Rattle.width_rules.specs.declared.slot.Slot.{Slot}
use Rattle.width_rules.specs.Circuits.{WithPorts, modules_from, ports_from, instance_in, instance_component}
use Rattle.width_rules.specs.Sources.{component_or_none}
use Rattle.type_filling.specs.Filling.{filled}
use Rattle.width_fit.specs.Judging.{slot_width}
use Rattle.fir_meaning.specs.Components.{TypedModule, Component, HasBundles, A_memory, An_instance, target_in, typed_ports, ports_bundle, design_of, modules_of, module_at, module_named, component_named}
use Rattle.fir_meaning.specs.WellTyped.{known_in}
use Rattle.fir_names.specs.Scopes.{texts, Means, Reaches, through}
use Rattle.fir_names.proofs.Graphs.{some_same}
use Rattle.circuit_laws.specs.WellFormed.{IsWellFormed, IsKnownModule}
use Rattle.circuit_laws.proofs.Typed.{named_itself, component_declared}
use Rattle.circuit_laws.proofs.Pieces.{found_in}
use Rattle.circuit_laws.proofs.Instances.{declared_instance}
use Rattle.circuit_laws.proofs.Reached.{IsNumbered, numbered, has_number, module_meant, module_there}
use Rattle.fitted_laws.specs.Accepted.{IsAccepted}
use Rattle.fitted_laws.proofs.Declared.{IsDeclared}
use Rattle.fitted_laws.proofs.Circuits as circuits
use Rattle.fitted_laws.proofs.Bundles.{ports_are, instance_leaves, first_with}
use Rattle.fitted_laws.proofs.Memories.{memory_filled}
use Rattle.fir_names.proofs.Members.{Contains-get}

module _ (fitted : Fitted) (ok : IsAccepted fitted) where
  abbrev circuit : Circuit
  circuit = fitted.checked.resolved

  abbrev with_ports : List WithPorts
  with_ports = modules_from 0 circuit.modules

  known : (path : List ℕ) (m : TypedModule) → module_at (design_of fitted) path ≡ Some m → IsKnownModule fitted m
  known = module_there fitted ok.scope ok.names (circuits.module_typed fitted ok)

  contained : (m : TypedModule) (k : IsKnownModule fitted m) → Contains (modules_of fitted) m
  contained m k = Contains-get (modules_of fitted) k.k m k.number

  listed : (m : TypedModule) (c : Component) (name : ℕ) → component_named m name ≡ Some c → Contains m.components c
  listed m c name e = (found_in (λ (x : Component). x.declaration.name == name) m.components c e).0

  first_has : (modules : List Module) (k x : ℕ) → slice_get (texts (map (λ m. m.name) modules)) k ≡ Some x → (holder : Module) × (slice_get modules k ≡ Some holder)
  first_has modules k x e = circuits.named_at modules k x e

  instance_there : (path : List ℕ) (m : TypedModule) (c : Component) (target : ℕ) → module_at (design_of fitted) path ≡ Some m → component_named m c.declaration.name ≡ Some c
      → c.declaration.sort ≡ An_instance target → (n : TypedModule) × (module_named (design_of fitted) target ≡ Some n) × (leaves c.typ ≡ leaves (instance_of (typed_ports n)))
  instance_there path m c target at found sort =
      let k : IsKnownModule fitted m = known path m at in
      let among : Contains m.components c = listed m c c.declaration.name found in
      let declared : IsDeclared (circuits.ws fitted ok) with_ports (known_in m) c.declaration c.typ = circuits.component_declared fitted ok k.k k.holder m k.here k.number k.reached c among in
      let of : IsNumbered circuit.modules k.k m = numbered circuit.modules fitted.declared k.k m k.number in
      let place = component_declared m of.holder of.of c among in
      let name = declared_instance of.holder place.0 target c.declaration place.1 (ap target_in sort) in
      let same : of.holder ≡ k.holder = some_same (sym of.here ∙ k.here) in
      let means = circuits.target_means fitted ok of.holder (Contains-get circuit.modules k.k of.holder of.here) name.0 name.1 in
      let meant : Means circuit target means.0 = subst (λ t. Means circuit t means.0) name.2 means.1 in
      let holder = first_has circuit.modules means.0 target meant.has in
      let n = has_number circuit.modules fitted.declared means.0 holder.0 holder.1 in
      let reaches : Reaches circuit ok.scope.main k.k = (ok.scope.reached k.k (slice_get_within circuit.modules k.k k.holder k.here)).0 k.reached in
      let onward : Reaches circuit ok.scope.main means.0 = through k.k means.0 name.0 reaches (record { holder = of.holder; here = of.here; stands = name.1; means = means.1 }) in
      let flag : slice_get fitted.checked.scope.reached means.0 ≡ Some true = (ok.scope.reached means.0 (slice_get_within circuit.modules means.0 holder.0 holder.1)).1 onward in
      let im = circuits.reached_module fitted ok means.0 holder.0 n.0 holder.1 n.1 flag (known_in n.0) in
      let from : ℕ = im.ports_from_is.0 in
      let own : WithPorts = record { holder = holder.0; ports = ports_from from holder.0.ports } in
      let first : find (λ x. x.holder.name.id == target) with_ports ≡ Some own = first_with circuit.modules 0 target means.0 own meant im.ports_from_is.3 in
      let sized : instance_in with_ports target ≡ instance_component own = ap (λ o. component_or_none (option_map instance_component o)) first in
      let typ : c.typ ≡ filled (instance_of holder.0.ports) (map (slot_width (circuits.ws fitted ok)) (flat_map (λ (slots : List Slot). slots) (ports_from from holder.0.ports)))
      = declared.instance target sort ∙ ap (λ s. filled s.part.typ (map (slot_width (circuits.ws fitted ok)) s.slots)) sized in (
        n.0,
        module_meant fitted target means.0 n.0 meant n.1,
        ap leaves typ ∙ instance_leaves (circuits.all fitted ok) from holder.0.ports
            ∙ ap (λ ps. leaves (instance_of ps)) (sym (ports_are (circuits.all fitted ok) holder.0 n.0 im.types im.ports_from_is.1 from im.is im.ports_from_is.2)),
      )

  memory_there : (path : List ℕ) (m : TypedModule) (c : Component) (memory : Memory) → module_at (design_of fitted) path ≡ Some m → component_named m c.declaration.name ≡ Some c
      → c.declaration.sort ≡ A_memory memory → (element : FirType) × (leaves c.typ ≡ leaves (ports_bundle memory element))
  memory_there path m c memory at found sort =
      let k : IsKnownModule fitted m = known path m at in
      let declared : IsDeclared (circuits.ws fitted ok) with_ports (known_in m) c.declaration c.typ = circuits.component_declared fitted ok k.k k.holder m k.here k.number k.reached c (listed m c c.declaration.name found) in
      let is = declared.memory memory sort in
      (_, ap leaves (is.2 ∙ memory_filled (circuits.ws fitted ok) memory is.0 is.1))

  bundles : HasBundles (design_of fitted)
  bundles = record {
    names = λ path m c at among. named_itself fitted ok.names m (contained m (known path m at)) c among;
    instances = instance_there;
    memories = memory_there;
  }

  pub accepted_well_formed : IsWellFormed fitted
  accepted_well_formed = record {
    scope = ok.scope;
    names = ok.names;
    declared = circuits.all_declared fitted ok;
    types = circuits.module_typed fitted ok;
    bundles = bundles;
  }
