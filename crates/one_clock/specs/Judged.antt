-- The faults of the registers and memory ports of all modules at all places.
use Rattle.std.specs.Prelude.{◌≡◌, ◌↔◌, ℕ, Bool, true, false, List, [], ◌∷◌, flat_map, nat_eq, Option, Some, None, option_map, if◌then◌else◌}
use Rattle.std.specs.Map.{lookup}
use Rattle.place_text.specs.declared.place.Place.{Place}
use Rattle.place_text.specs.First.{Tells}
use Rattle.fir_tree.specs.declared.scope.Fitted.{Fitted}
use Rattle.fir_meaning.specs.Components.{Leaf, FlatLeaf, design_of}
use Rattle.fir_meaning.specs.ClockRoot.{IsRooted}
use Rattle.drive_check.specs.Keys.{leaf_of_key}
use Rattle.clock_check.specs.declared.fault.ClockFault.{ClockFault}
use Rattle.clock_check.specs.declared.fault.ClockFault.TheVariants.{ClockOther}
use Rattle.clock_check.specs.declared.hung.Hung.{Hung}
use Rattle.clock_check.specs.Clocked.{IsFault}
use Rattle.clock_check.specs.Joins.{flat_by}
use Rattle.one_clock.specs.declared.module_clocks.ModuleClocks.{ModuleClocks}
use Rattle.one_clock.specs.declared.places.Standing.{Standing}
use Rattle.one_clock.specs.Tables.{Table}

-- the leaf of the module at this path is in the set
abbrev pub leads_home : (FlatLeaf → Bool) → List (ℕ × ℕ) → List ℕ → Option Leaf → Bool
leads_home set targets path (Some leaf) = set (flat_by targets path leaf)
leads_home set targets path None = false

abbrev pub fault_unless : Bool → Place → List ClockFault
fault_unless home place = if home then [] else ClockOther place ∷ []

abbrev pub hung_faults : (FlatLeaf → Bool) → List (ℕ × ℕ) → List ℕ → Hung → List ClockFault
hung_faults set targets path hung = fault_unless (leads_home set targets path (option_map leaf_of_key hung.clock)) hung.place

abbrev pub faults_in : (FlatLeaf → Bool) → List ℕ → Option ModuleClocks → List ClockFault
faults_in set path (Some clocks) = flat_map (hung_faults set clocks.targets.entries path) clocks.hung.items
faults_in set path None = []

-- those of the module at this place
abbrev pub place_faults : Table → (FlatLeaf → Bool) → Standing → List ClockFault
place_faults table set place = faults_in set place.path.items (lookup (nat_eq place.name) table)

-- The list tells all faults of clocks, by a set that decides what leads to main's first Clock input.
pub record Judges (fitted : Fitted) (faults : List ClockFault) : Type 0 where
  pub set : FlatLeaf → Bool
  pub decides : (x : FlatLeaf) → (set x ≡ true) ↔ IsRooted (design_of fitted) x
  pub tells : Tells (IsFault fitted) faults
