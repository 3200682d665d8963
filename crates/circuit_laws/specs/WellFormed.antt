-- Circuits that the checks of names, types and widths let pass: what every later call that takes a fitted circuit may rest on.
use Rattle.std.specs.Prelude.{◌≡◌, ℕ, true, length, slice_get, sum_by, Some}
use Rattle.place_text.specs.First.{HasNone}
use Rattle.fir_tree.specs.declared.circuit.Module.{Module}
use Rattle.fir_tree.specs.declared.scope.Fitted.{Fitted}
use Rattle.fir_meaning.specs.Components.{TypedModule, HasBundles, declarations_of, modules_of, design_of}
use Rattle.fir_meaning.specs.WellTyped.{HasTypes}
use Rattle.fir_names.specs.Scopes.{IsScope}
use Rattle.fir_names.specs.Faults.{IsFault}

-- Names mean what the scope says and have no fault; each declaration of the text has a type; the modules that main reaches are well
-- typed; instances have the leaves of their modules' ports, and memories those of their ports.
pub record IsWellFormed (fitted : Fitted) : Type 0 where
  pub scope : IsScope fitted.checked.resolved fitted.checked.scope
  pub names : HasNone (IsFault fitted.checked.resolved)
  pub declared : length fitted.declared ≡ sum_by (λ holder. length (declarations_of holder)) fitted.checked.resolved.modules
  pub types : (k : ℕ) (holder : Module) (m : TypedModule) → slice_get fitted.checked.resolved.modules k ≡ Some holder → slice_get (modules_of fitted) k ≡ Some m
      → slice_get fitted.checked.scope.reached k ≡ Some true → HasTypes holder m
  pub bundles : HasBundles (design_of fitted)

-- A module that main reaches, by its number, with the module of the text whose declarations its components are.
pub record IsKnownModule (fitted : Fitted) (m : TypedModule) : Type 0 where
  pub k : ℕ
  pub holder : Module
  pub here : slice_get fitted.checked.resolved.modules k ≡ Some holder
  pub number : slice_get (modules_of fitted) k ≡ Some m
  pub reached : slice_get fitted.checked.scope.reached k ≡ Some true
  pub typed : HasTypes holder m
