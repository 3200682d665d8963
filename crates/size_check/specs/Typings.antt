-- The types of a module's components (FIRRTL specification 3.0, "Statements"), in text order. A node has the type of its expression
-- among the components before it. Of each name the first component counts; in an accepted circuit there is only one.
use Rattle.std.specs.Prelude.{ℕ, nat_eq, is_some, List, [], ◌∷◌, ◌++◌, map, Option, Some, None, if◌then◌else◌}
use Rattle.std.specs.Map.{lookup}
use Rattle.fir_types.specs.declared.fir_type.FirType.{FirType}
use Rattle.fir_types.specs.declared.port.Port.{Port}
use Rattle.fir_types.specs.Bundles.{memory_of, instance_of}
use Rattle.fir_tree.specs.declared.circuit.Module.{Module}
use Rattle.fir_tree.specs.declared.stmt.Stmt.{Stmt, fold-Stmt}
use Rattle.fir_tree.specs.declared.stmt.Arm.{Arm, fold-Arm}
use Rattle.fir_tree.specs.declared.stmt.Stmt.TheOpen.{Stmt-F, Arm-F}
pub use Rattle.module_table.specs.Tables.{named}
use Rattle.size_check.specs.Weights.{Typing, weight, no_type}

-- the components that are known, with their types
abbrev pub Known : Type 0
Known = List (ℕ × FirType)

abbrev pub type_or_none : Option FirType → FirType
type_or_none (Some typ) = typ
type_or_none None = no_type

abbrev pub typing : Known → Typing
typing known id = type_or_none (lookup (nat_eq id) known)

abbrev pub known_with : Known → ℕ → FirType → Known
known_with known id typ = if is_some (lookup (nat_eq id) known) then known else known ++ (id, typ) ∷ []

-- what is known behind a part
abbrev pub Notes : Type 0
Notes = Known → Known

abbrev pub in_turn : List Notes → Notes
in_turn [] known = known
in_turn (first ∷ rest) known = in_turn rest (first known)

abbrev pub instance_type : Option Module → FirType
instance_type (Some target) = instance_of target.ports
instance_type None = no_type

abbrev pub of_stmt : List Module → Stmt-F Notes Notes → Notes
of_stmt modules (Stmt-F.Wire name typ) known = known_with known name.id typ
of_stmt modules (Stmt-F.Reg name typ clock) known = known_with known name.id typ
of_stmt modules (Stmt-F.RegReset name typ clock reset init) known = known_with known name.id typ
of_stmt modules (Stmt-F.Mem memory) known = known_with known memory.name.id (memory_of memory)
of_stmt modules (Stmt-F.Inst name target) known = known_with known name.id (instance_type (named modules target.id))
of_stmt modules (Stmt-F.Node name expr) known = known_with known name.id (weight expr (typing known)).typ
of_stmt modules (Stmt-F.Connect left right) known = known
of_stmt modules (Stmt-F.Invalidate target) known = known
of_stmt modules (Stmt-F.When arms other) known = in_turn other (in_turn arms known)
of_stmt modules (Stmt-F.Skip place) known = known

abbrev pub of_arm : Arm-F Notes Notes → Notes
of_arm arm = in_turn arm.body

abbrev pub stmt_notes : List Module → Stmt → Notes
stmt_notes modules = fold-Stmt Notes Notes (of_stmt modules) of_arm

abbrev pub arm_notes : List Module → Arm → Notes
arm_notes modules = fold-Arm Notes Notes (of_stmt modules) of_arm

abbrev pub port_notes : Port → Notes
port_notes port known = known_with known port.name.id port.typ

-- all components of a module
abbrev pub known_in : List Module → Module → Known
known_in modules holder = in_turn (map (stmt_notes modules) holder.body) (in_turn (map port_notes holder.ports) [])

abbrev pub typing_in : List Module → Module → Typing
typing_in modules holder = typing (known_in modules holder)
