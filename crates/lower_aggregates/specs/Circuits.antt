-- Circuits that are lowered, module by module.
use Rattle.std.specs.Prelude.{◌≡◌, ℕ, ◌<◌, ◌^◌, ◌++◌, true, List, [], ◌∷◌, Some, is_some, length, drop, slice_get, sum_by, nat_eq, if◌then◌else◌}
use Rattle.std.specs.Map.{lookup}
use Rattle.fir_types.specs.declared.name.Name.{Name}
use Rattle.fir_types.specs.declared.fir_type.FirType.{FirType}
use Rattle.fir_tree.specs.declared.scope.Fitted.{Fitted}
use Rattle.fir_names.specs.Finds.{numbered}
use Rattle.fir_meaning.specs.Components.{TypedModule, declarations_of, with_types, modules_of}
use Rattle.ground_net.specs.declared.circuit.GroundModule.{GroundModule}
use Rattle.net_of_circuit.specs.Lowering.{IsGroundModule}
use Rattle.lower_aggregates.specs.Instances.{Numbers}

-- Each name has the number of the first of these names that is the same.
abbrev pub IsPlaced : List Name → Numbers → Type 0
IsPlaced names numbers = (id : ℕ) → lookup (nat_eq id) numbers ≡ lookup (nat_eq id) (numbered 0 names)

-- the numbers with one more, unless its name has one
abbrev pub with_new : Numbers → ℕ → ℕ → Numbers
with_new numbers id number = if is_some (lookup (nat_eq id) numbers) then numbers else numbers ++ (id, number) ∷ []

-- These are the types of the declarations of the modules from this number on.
pub record StandsFrom (fitted : Fitted) (number : ℕ) (types : List FirType) : Type 0 where
  pub typed : with_types (drop number fitted.checked.resolved.modules) types ≡ drop number (modules_of fitted)
  pub counted : sum_by (λ holder. length (declarations_of holder)) (drop number fitted.checked.resolved.modules) ≡ length types

-- What is made of the module of this number: where main reaches it, its ground statements; and a `u32` numbers its leaves.
pub record IsMadeAt (fitted : Fitted) (number : ℕ) (made : GroundModule) : Type 0 where
  pub short : length made.leaves < 2 ^ 32
  pub lowered : (m : TypedModule) → slice_get (modules_of fitted) number ≡ Some m → slice_get fitted.checked.scope.reached number ≡ Some true
      → IsGroundModule fitted.checked.resolved.names fitted.checked.resolved m made

-- Each of these is made of the module of its number.
abbrev pub AreMade : Fitted → List GroundModule → Type 0
AreMade fitted made = (k : ℕ) (g : GroundModule) → slice_get made k ≡ Some g → IsMadeAt fitted k g
