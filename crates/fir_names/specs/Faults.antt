-- The faults of a circuit's names, and which is the first (FIRRTL specification 3.0, "Circuits and Modules", "Instances", "Namespaces",
-- "Scoping").
use Rattle.std.specs.Prelude.{Contains, ◌≡◌, ℕ, List, ◌∷◌, ◌++◌, Option, Some, None, codes}
use Rattle.place_text.specs.declared.place.Place.{Place}
use Rattle.place_text.specs.First.{IsFirst as IsFirstOf}
use Rattle.fir_types.specs.declared.name.Name.{Name}
use Rattle.fir_tree.specs.declared.circuit.Circuit.{Circuit}
use Rattle.fir_tree.specs.declared.circuit.Module.{Module}
use Rattle.fir_names.specs.declared.fault.NameFault.{NameFault}
use Rattle.fir_names.specs.declared.fault.NameFault.TheVariants.{NoMain, ModuleTwice, ModuleUnknown, InstanceLoop, NameTwice, NameUnknown, NoMemory}
use Rattle.fir_names.specs.Extents.{Use, uses_in, declared_in, instances_in}
use Rattle.fir_names.specs.Scopes.{texts, module_names, Instance, Reaches, Names}

-- a name that one before it in the list has as well
pub record IsTwice (names : List Name) (name : Name) : Type 0 where
  pub before : List Name
  pub after : List Name
  pub split : names ≡ before ++ name ∷ after
  pub again : Contains (texts before) name.id

-- the faults of a circuit's names
pub data IsFault (circuit : Circuit) : NameFault → Type 0 where
  no_main : ¬ (Contains (texts (module_names circuit)) circuit.main.id) → IsFault circuit (NoMain circuit.main.place)
  module_twice : (name : Name) → IsTwice (module_names circuit) name → IsFault circuit (ModuleTwice name.place)
  module_unknown : (holder : Module) (target : Name) → Contains circuit.modules holder → Contains (instances_in holder) target
      → ¬ (Contains (texts (module_names circuit)) target.id) → IsFault circuit (ModuleUnknown target.place)
  instance_loop : (from to : ℕ) (target : Name) → Instance circuit from target to → Reaches circuit to from → IsFault circuit (InstanceLoop target.place)
  name_twice : (holder : Module) (name : Name) → Contains circuit.modules holder → IsTwice (declared_in holder) name → IsFault circuit (NameTwice name.place)
  name_unknown : (holder : Module) (use' : Use) → Contains circuit.modules holder → Contains (uses_in holder) use' → ((number : ℕ) → ¬ (Names use' number))
      → IsFault circuit (NameUnknown use'.name.place)

-- where a fault stands; want of memory stands nowhere
abbrev pub place_of : NameFault → Option Place
place_of (NoMain place) = Some place
place_of (ModuleTwice place) = Some place
place_of (ModuleUnknown place) = Some place
place_of (InstanceLoop place) = Some place
place_of (NameTwice place) = Some place
place_of (NameUnknown place) = Some place
place_of NoMemory = None

-- the order of faults at one place
abbrev pub rank_of : NameFault → ℕ
rank_of (NoMain place) = 0
rank_of (ModuleTwice place) = 1
rank_of (ModuleUnknown place) = 2
rank_of (InstanceLoop place) = 3
rank_of (NameTwice place) = 4
rank_of (NameUnknown place) = 5
rank_of NoMemory = 6

-- the name of a fault's kind
abbrev pub kind_of : NameFault → List ℕ
kind_of (NoMain place) = codes "NoMain"
kind_of (ModuleTwice place) = codes "ModuleTwice"
kind_of (ModuleUnknown place) = codes "ModuleUnknown"
kind_of (InstanceLoop place) = codes "InstanceLoop"
kind_of (NameTwice place) = codes "NameTwice"
kind_of (NameUnknown place) = codes "NameUnknown"
kind_of NoMemory = codes "NoMemory"

-- the fault that is told: no other one comes before it
abbrev pub IsFirst : Circuit → NameFault → Type 0
IsFirst circuit = IsFirstOf place_of rank_of (IsFault circuit)
