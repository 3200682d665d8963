-- A register or a memory's port that was found in a module which main reaches, and whose clock is another one at some path.
use Rattle.std.specs.Prelude.{◌≡◌, ℕ, List, Option, Some, Contains}
use Rattle.place_text.specs.declared.place.Place.{Place}
use Rattle.fir_tree.specs.declared.scope.Fitted.{Fitted}
use Rattle.fir_meaning.specs.Components.{Design, TypedModule, Leaf, design_of, type_in, module_at, flat}
use Rattle.fir_meaning.specs.ClockRoot.{IsRooted}
use Rattle.circuit_laws.specs.WellFormed.{IsKnownModule}
use Rattle.clock_check.specs.Hung.{module_hung}

-- there is a leaf, and it leads to main's first Clock input
abbrev pub LeadsHome : Design → List ℕ → TypedModule → Option Leaf → Type 0
LeadsHome design path m clock = (leaf : Leaf) × (clock ≡ Some leaf) × IsRooted design (flat m path leaf)

pub record HangsOther (fitted : Fitted) (place : Place) : Type 0 where
  pub path : List ℕ
  pub m : TypedModule
  pub clock : Option Leaf
  pub known : IsKnownModule fitted m
  pub reached : module_at (design_of fitted) path ≡ Some m
  pub hangs : Contains (module_hung (type_in m) known.holder) (place, clock)
  pub other : ¬ (LeadsHome (design_of fitted) path m clock)
