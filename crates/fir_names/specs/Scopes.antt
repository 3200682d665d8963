-- The scope of a circuit (FIRRTL specification 3.0, "Circuits and Modules", "Instances").
use Rattle.std.specs.Prelude.{Contains, ◌≡◌, ◌≢◌, ℕ, ◌<◌, true, ◌↔◌, List, map, length, slice_get, Some}
use Rattle.std.specs.List.{flat_map, AllZip}
use Rattle.fir_types.specs.declared.name.Name.{Name}
use Rattle.fir_tree.specs.declared.circuit.Circuit.{Circuit}
use Rattle.fir_tree.specs.declared.circuit.Module.{Module}
use Rattle.fir_tree.specs.declared.scope.Scope.{Scope}
use Rattle.fir_names.specs.Extents.{Use, uses_in, instances_in}

-- the texts of names
abbrev pub texts : List Name → List ℕ
texts names = map (λ name. name.id) names

abbrev pub module_names : Circuit → List Name
module_names circuit = map (λ m. m.name) circuit.modules

-- the first place where a number stands in a list
pub record FirstOf (list : List ℕ) (x place : ℕ) : Type 0 where
  pub has : slice_get list place ≡ Some x
  pub first : (earlier : ℕ) → earlier < place → slice_get list earlier ≢ Some x

-- the module of a name is the first one that has it
abbrev pub Means : Circuit → ℕ → ℕ → Type 0
Means circuit text number = FirstOf (texts (module_names circuit)) text number

-- in the module with this number stands an `inst` with this name of a module, which means the module with that number
pub record Instance (circuit : Circuit) (from : ℕ) (target : Name) (to : ℕ) : Type 0 where
  pub holder : Module
  pub here : slice_get circuit.modules from ≡ Some holder
  pub stands : Contains (instances_in holder) target
  pub means : Means circuit target.id to

-- a module reaches another one through instances
pub data Reaches (circuit : Circuit) (from : ℕ) : ℕ → Type 0 where
  itself : Reaches circuit from from
  through : (middle to : ℕ) (target : Name) → Reaches circuit from middle → Instance circuit middle target to → Reaches circuit from to

-- the reference sees the declaration with this number, which has its name
abbrev pub Names : Use → ℕ → Type 0
Names use' number = Contains use'.seen (use'.name.id, number)

pub record IsScope (circuit : Circuit) (scope : Scope) : Type 0 where
  pub main : ℕ
  pub is_main : Means circuit circuit.main.id main
  pub counted : length scope.reached ≡ length circuit.modules
  pub reached : (k : ℕ) → k < length circuit.modules → (slice_get scope.reached k ≡ Some true) ↔ Reaches circuit main k
  pub uses : AllZip Names (flat_map uses_in circuit.modules) scope.uses
  pub targets : AllZip (λ target number. Means circuit target.id number) (flat_map instances_in circuit.modules) scope.targets
