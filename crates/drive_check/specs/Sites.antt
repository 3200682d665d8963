-- Where the declarations of a module stand, and where a fault of one of their leaves is told.
use Rattle.std.specs.Prelude.{◌==◌, ◌++◌, List, [], ◌∷◌, map, find, filter_map, flat_map, Option, Some, None}
use Rattle.place_text.specs.declared.place.Place.{Place}
use Rattle.fir_types.specs.declared.name.Name.{Name}
use Rattle.fir_types.specs.declared.leaf.PathStep.{PathStep}
use Rattle.fir_types.specs.declared.leaf.PathStep.TheVariants as step
use Rattle.fir_types.specs.declared.memory.Memory.{Memory}
use Rattle.fir_types.specs.declared.memory.MemLine.{MemLine}
use Rattle.fir_types.specs.declared.memory.MemLine.TheVariants as line
use Rattle.fir_tree.specs.declared.circuit.Module.{Module}
use Rattle.fir_tree.specs.declared.stmt.Stmt.{Stmt, fold-Stmt}
use Rattle.fir_tree.specs.declared.stmt.Arm.{Arm, fold-Arm}
use Rattle.fir_tree.specs.declared.stmt.Stmt.TheOpen.{Stmt-F, Arm-F}
use Rattle.fir_meaning.specs.Components.{Sort, A_memory}

-- all names of these lists, in order
abbrev pub all_names : List (List Name) → List Name
all_names = flat_map (λ names. names)

-- the names that a statement declares, those in the blocks within it included
abbrev pub of_stmt : Stmt-F (List Name) (List Name) → List Name
of_stmt (Stmt-F.Wire name typ) = name ∷ []
of_stmt (Stmt-F.Reg name typ clock) = name ∷ []
of_stmt (Stmt-F.RegReset name typ clock reset init) = name ∷ []
of_stmt (Stmt-F.Mem memory) = memory.name ∷ []
of_stmt (Stmt-F.Inst name target) = name ∷ []
of_stmt (Stmt-F.Node name expr) = name ∷ []
of_stmt (Stmt-F.When arms other) = all_names arms ++ all_names other
of_stmt _ = []

abbrev pub of_arm : Arm-F (List Name) (List Name) → List Name
of_arm arm = all_names arm.body

abbrev pub stmt_names : Stmt → List Name
stmt_names = fold-Stmt (List Name) (List Name) of_stmt of_arm

abbrev pub arm_names : Arm → List Name
arm_names = fold-Arm (List Name) (List Name) of_stmt of_arm

-- The names that a module declares, with their places, in text order, ports first.
abbrev pub names_of : Module → List Name
names_of holder = map (λ port. port.name) holder.ports ++ flat_map stmt_names holder.body

-- the name of the port that a line declares, where it declares one
abbrev pub port_name_in : MemLine → Option Name
port_name_in (line.MemPort at mode name) = Some name
port_name_in _ = None

abbrev pub place_or : Place → Option Name → Place
place_or other (Some name) = name.place
place_or other None = other

-- a leaf of a memory is told at the name of its port
abbrev pub place_in_memory : Place → Memory → List PathStep → Place
place_in_memory other memory (step.Field port ∷ way) = place_or other (find (λ name. name.id == port) (filter_map port_name_in memory.lines))
place_in_memory other memory _ = other

-- The place at which a leaf of a component is told: that of the component's name, and for a leaf of a memory that of its port's.
abbrev pub place_of_leaf : Name → Sort → List PathStep → Place
place_of_leaf name (A_memory memory) way = place_in_memory name.place memory way
place_of_leaf name _ way = name.place
