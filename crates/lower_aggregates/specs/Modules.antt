-- Modules that are lowered.
use Rattle.std.specs.Prelude.{◌≡◌, ℕ, List, map, zip, nat_eq, Contains, Some, is_some, true}
use Rattle.std.specs.Map.{lookup}
use Rattle.place_text.specs.First.{HasNone}
use Rattle.fir_types.specs.declared.fir_type.FirType.{FirType}
use Rattle.fir_types.specs.declared.memory.Memory.{Memory}
use Rattle.fir_types.specs.Leaves.{leaves}
use Rattle.fir_tree.specs.declared.circuit.Circuit.{Circuit}
use Rattle.fir_tree.specs.declared.circuit.Module.{Module}
use Rattle.fir_tree.specs.declared.scope.Scope.{Scope}
use Rattle.fir_names.specs.Scopes.{IsScope, Means}
use Rattle.fir_names.specs.Faults.{IsFault}
use Rattle.fir_meaning.specs.Components.{TypedModule, Component, A_memory, An_instance, declarations_of, ports_bundle}
use Rattle.fir_meaning.specs.WellTyped.{HasTypes}
use Rattle.lower_aggregates.specs.Instances.{Numbers}

-- The module of the text is well typed with these types for its first declarations, its memories have the leaves of their ports, and the
-- modules of its instances have these numbers.
pub record IsLowerable (circuit : Circuit) (scope : Scope) (numbers : Numbers) (holder : Module) (types : List FirType) (m : TypedModule) : Type 0 where
  pub scoped : IsScope circuit scope
  pub names : HasNone (IsFault circuit)
  pub among : Contains circuit.modules holder
  pub components : m.components ≡ map (λ both. record { declaration = both.0; typ = both.1 }) (zip (declarations_of holder) types)
  pub typed : HasTypes holder m
  pub bundles : (c : Component) (memory : Memory) → Contains m.components c → c.declaration.sort ≡ A_memory memory → (element : FirType) × (leaves c.typ ≡ leaves (ports_bundle memory element))
  pub made : (c : Component) (target : ℕ) → Contains m.components c → c.declaration.sort ≡ An_instance target → is_some (lookup (nat_eq target) numbers) ≡ true
  pub means : (name number : ℕ) → lookup (nat_eq name) numbers ≡ Some number → Means circuit name number
