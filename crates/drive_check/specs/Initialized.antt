-- Leaves that nothing may drive (FIRRTL specification 3.0, "Initialization" under "Conditionals"), in the modules that main reaches.
use Rattle.std.specs.Prelude.{◌≡◌, ℕ, true, false, Contains, slice_get, Some}
use Rattle.place_text.specs.declared.place.Place.{Place}
use Rattle.fir_types.specs.declared.name.Name.{Name}
use Rattle.fir_types.specs.declared.leaf.TypeLeaf.{TypeLeaf}
use Rattle.fir_types.specs.Leaves.{leaves}
use Rattle.fir_tree.specs.declared.circuit.Module.{Module}
use Rattle.fir_tree.specs.declared.scope.Fitted.{Fitted}
use Rattle.fir_meaning.specs.Components.{TypedModule, Component, modules_of, flow_of, type_in}
use Rattle.fir_meaning.specs.Certain.{is_certain, must_be_driven}
use Rattle.fir_meaning.specs.States.{leaf_of}
use Rattle.drive_check.specs.declared.fault.DriveFault.{DriveFault}
use Rattle.drive_check.specs.declared.fault.DriveFault.TheVariants.{NotInitialized}
use Rattle.drive_check.specs.Sites.{names_of, place_of_leaf}

-- a module that main reaches, as the text has it and with its components' types
pub record IsReached (fitted : Fitted) (holder : Module) (m : TypedModule) : Type 0 where
  pub number : ℕ
  pub reached : slice_get fitted.checked.scope.reached number ≡ Some true
  pub holds : slice_get fitted.checked.resolved.modules number ≡ Some holder
  pub typed : slice_get (modules_of fitted) number ≡ Some m

-- a component of a module, with its name as the text has it
pub record Declares (holder : Module) (m : TypedModule) (c : Component) (name : Name) : Type 0 where
  pub number : ℕ
  pub component : slice_get m.components number ≡ Some c
  pub named : slice_get (names_of holder) number ≡ Some name

-- A leaf that must be driven isn't, whatever the values are, by the statements behind the declaration of its component in its block;
-- and it is told at this place.
pub record IsUndriven (fitted : Fitted) (place : Place) : Type 0 where
  pub holder : Module
  pub m : TypedModule
  pub c : Component
  pub name : Name
  pub leaf : TypeLeaf
  pub reached : IsReached fitted holder m
  pub declares : Declares holder m c name
  pub listed : Contains (leaves c.typ) leaf
  pub must : must_be_driven c.declaration.sort (flow_of c.declaration.sort leaf.flip) ≡ true
  pub open' : is_certain (type_in m) (leaf_of c leaf) c.declaration.behind ≡ false
  pub at : place_of_leaf name c.declaration.sort leaf.path ≡ place

-- the faults of driven leaves
pub data IsFault (fitted : Fitted) : DriveFault → Type 0 where
  not_initialized : (place : Place) → IsUndriven fitted place → IsFault fitted (NotInitialized place)
