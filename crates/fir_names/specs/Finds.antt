-- What the walk over the modules finds: the faults, the numbers of the instances' modules, and the graph.
use Rattle.std.specs.Prelude.{◌≡◌, ℕ, ◌+◌, List, [], ◌∷◌, ◌++◌, map, length, nat_eq, Option, Some, None, Bool, true, false}
use Rattle.std.specs.List.{flat_map, list_any}
use Rattle.place_text.specs.declared.place.Place.{Place}
use Rattle.fir_types.specs.declared.name.Name.{Name}
use Rattle.fir_tree.specs.declared.circuit.Circuit.{Circuit}
use Rattle.fir_tree.specs.declared.circuit.Module.{Module}
use Rattle.fir_names.specs.declared.fault.NameFault.{NameFault}
use Rattle.fir_names.specs.declared.fault.NameFault.TheVariants.{NoMain, ModuleTwice, ModuleUnknown, NameTwice}
use Rattle.fir_names.specs.declared.graph.Edge.{Edge}
use Rattle.fir_names.specs.declared.gather.Gathered.{Gathered}
use Rattle.fir_names.specs.Graphs.{LoopsBefore, Adds}
use Rattle.fir_names.specs.Extents.{Seen, declared_in, instances_in, uses_in}
use Rattle.fir_names.specs.Scopes.{texts, module_names}
use Rattle.fir_names.specs.Walks.{kept_of, first_of, number_in, fault_in, number_of, fault_of}

-- names with their numbers, from n on
abbrev pub numbered : ℕ → List Name → List Seen
numbered n [] = []
numbered n (name ∷ names) = (name.id, n) ∷ numbered (n + 1) names

-- the fault, where it is told
abbrev pub fault_where : Bool → NameFault → List NameFault
fault_where true fault = fault ∷ []
fault_where false fault = []

-- the faults of names, where other names stand before them
abbrev pub twice_behind : (Place → NameFault) → List Name → List Name → List NameFault
twice_behind says before [] = []
twice_behind says before (name ∷ names) = fault_where (list_any (nat_eq name.id) (texts before)) (says name.place) ++ twice_behind says (before ++ name ∷ []) names

-- the edge of an instance, where its module is known
abbrev pub edge_to : Option ℕ → Place → List Edge
edge_to (Some number) place = record { to = number; place = place } ∷ []
edge_to None place = []

abbrev pub edge_in : List Seen → Name → List Edge
edge_in known name = edge_to (first_of known name.id) name.place

abbrev pub edges_of : List Seen → Module → List Edge
edges_of known holder = flat_map (edge_in known) (instances_in holder)

-- the faults of a module
abbrev pub faults_of : List Seen → Module → List NameFault
faults_of known holder = twice_behind NameTwice [] (declared_in holder) ++ (flat_map fault_of (uses_in holder) ++ flat_map (fault_in ModuleUnknown known) (instances_in holder))

-- what is gathered of modules
pub record Gathers (known : List Seen) (modules : List Module) (old new : Gathered) : Type 0 where
  pub faults : new.faults.items ≡ old.faults.items ++ flat_map (faults_of known) modules
  pub uses : new.uses.items ≡ old.uses.items ++ map number_of (flat_map uses_in modules)
  pub targets : new.targets.items ≡ old.targets.items ++ map (number_in known) (flat_map instances_in modules)
  pub graph : new.graph.items ≡ old.graph.items ++ map (edges_of known) modules

-- the modules' numbers, of each text the first
abbrev pub known_of : Circuit → List Seen
known_of circuit = kept_of (numbered 0 (module_names circuit))

-- the faults other than loops
abbrev pub faults_in : Circuit → List NameFault
faults_in circuit = twice_behind ModuleTwice [] (module_names circuit) ++ (fault_in NoMain (known_of circuit) circuit.main ++ flat_map (faults_of (known_of circuit)) circuit.modules)

-- what is found of a whole circuit
pub record IsFound (circuit : Circuit) (main : ℕ) (found : Gathered) : Type 0 where
  pub is_main : main ≡ number_in (known_of circuit) circuit.main
  pub uses : found.uses.items ≡ map number_of (flat_map uses_in circuit.modules)
  pub targets : found.targets.items ≡ map (number_in (known_of circuit)) (flat_map instances_in circuit.modules)
  pub graph : found.graph.items ≡ map (edges_of (known_of circuit)) circuit.modules
  pub faults : Adds (LoopsBefore found.graph.items (length found.graph.items)) (faults_in circuit) found.faults.items
