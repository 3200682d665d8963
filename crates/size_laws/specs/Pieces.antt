-- What a module declares, as it is measured: a port, a wire and a register with the type that the text gives, and a node, a memory and
-- an instance with the type that the measure takes for it (FIRRTL specification 3.0, "Circuits and Modules" and "Statements").
use Rattle.std.specs.Prelude.{◌≡◌, ℕ, ◌++◌, List, [], ◌∷◌, map, flat_map, slice_get, Some, if◌then◌else◌}
use Rattle.std.specs.List.{AllZip}
use Rattle.fir_types.specs.declared.fir_type.FirType.{FirType}
use Rattle.fir_types.specs.declared.leaf.PathStep.{PathStep}
use Rattle.fir_types.specs.declared.port.Port.{Port}
use Rattle.fir_types.specs.Leaves.{leaves}
use Rattle.fir_tree.specs.declared.circuit.Module.{Module}
use Rattle.fir_tree.specs.declared.scope.Fitted.{Fitted}
use Rattle.fir_tree.specs.declared.stmt.Stmt.{Stmt, fold-Stmt}
use Rattle.fir_tree.specs.declared.stmt.Arm.{Arm, fold-Arm}
use Rattle.fir_tree.specs.declared.stmt.Stmt.TheOpen.{Stmt-F, Arm-F}
use Rattle.fir_meaning.specs.Components.{TypedModule, Component, Sort, An_input, An_output, A_wire, A_register, A_reset_register, A_memory, An_instance, A_node, modules_of}
use Rattle.size_check.specs.Weights.{Typing}
use Rattle.size_check.specs.Typings.{typing_in}

-- A declaration: its name, what it makes, and its type.
pub record Piece : Type 0 where
  pub name : ℕ
  pub sort : Sort
  pub typ : FirType

abbrev pub piece : ℕ → Sort → FirType → Piece
piece name sort typ = record { name = name; sort = sort; typ = typ }

-- all of these lists, in order
abbrev pub all_pieces : List (List Piece) → List Piece
all_pieces = flat_map (λ pieces. pieces)

-- what a statement declares among components of these types, the statements in the blocks within it included
abbrev pub of_stmt : Typing → Stmt-F (List Piece) (List Piece) → List Piece
of_stmt types (Stmt-F.Wire name typ) = piece name.id A_wire typ ∷ []
of_stmt types (Stmt-F.Reg name typ clock) = piece name.id (A_register clock) typ ∷ []
of_stmt types (Stmt-F.RegReset name typ clock reset init) = piece name.id (A_reset_register clock reset init) typ ∷ []
of_stmt types (Stmt-F.Mem memory) = piece memory.name.id (A_memory memory) (types memory.name.id) ∷ []
of_stmt types (Stmt-F.Inst name target) = piece name.id (An_instance target.id) (types name.id) ∷ []
of_stmt types (Stmt-F.Node name expr) = piece name.id (A_node expr) (types name.id) ∷ []
of_stmt types (Stmt-F.When arms other) = all_pieces arms ++ all_pieces other
of_stmt types _ = []

abbrev pub of_arm : Arm-F (List Piece) (List Piece) → List Piece
of_arm arm = all_pieces arm.body

abbrev pub stmt_pieces : Typing → Stmt → List Piece
stmt_pieces types = fold-Stmt (List Piece) (List Piece) (of_stmt types) of_arm

abbrev pub arm_pieces : Typing → Arm → List Piece
arm_pieces types = fold-Arm (List Piece) (List Piece) (of_stmt types) of_arm

abbrev pub port_piece : Port → Piece
port_piece port = piece port.name.id (if port.output then An_output else An_input) port.typ

-- The declarations of a module in text order, ports first.
abbrev pub pieces_of : List Module → Module → List Piece
pieces_of modules holder = map port_piece holder.ports ++ flat_map (stmt_pieces (typing_in modules holder)) holder.body

-- the ways to the leaves of a type
abbrev pub ways : FirType → List (List PathStep)
ways typ = map (λ leaf. leaf.path) (leaves typ)

-- The component is the one that was measured: its leaves stand at the same ways.
pub record IsMeasured (p : Piece) (c : Component) : Type 0 where
  pub name : p.name ≡ c.declaration.name
  pub sort : p.sort ≡ c.declaration.sort
  pub ways : ways p.typ ≡ ways c.typ

-- So are all components of a circuit whose widths are known.
abbrev pub AreMeasured : Fitted → Type 0
AreMeasured fitted = (k : ℕ) (holder : Module) (m : TypedModule) → slice_get fitted.checked.resolved.modules k ≡ Some holder → slice_get (modules_of fitted) k ≡ Some m
    → AllZip IsMeasured (pieces_of fitted.checked.resolved.modules holder) m.components
