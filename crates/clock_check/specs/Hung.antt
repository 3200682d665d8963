-- The registers and memory ports of a module, each with its place and the leaf that is its clock, in text order.
use Rattle.std.specs.Prelude.{ℕ, ◌++◌, List, [], ◌∷◌, map, flat_map, Option, Some, option_map, slice_get}
use Rattle.place_text.specs.declared.place.Place.{Place}
use Rattle.fir_types.specs.declared.memory.MemLine.{MemLine}
use Rattle.fir_types.specs.declared.memory.MemLine.TheVariants as line
use Rattle.fir_tree.specs.declared.circuit.Module.{Module}
use Rattle.fir_tree.specs.declared.expr.Expr.{Expr}
use Rattle.fir_tree.specs.declared.stmt.Stmt.{Stmt, fold-Stmt}
use Rattle.fir_tree.specs.declared.stmt.Arm.{Arm, fold-Arm}
use Rattle.fir_tree.specs.declared.stmt.Stmt.TheOpen.{Stmt-F, Arm-F}
use Rattle.fir_meaning.specs.Components.{Leaf, Declaration, Sort, A_register, A_reset_register, A_memory}
use Rattle.fir_meaning.specs.Mentions.{Scope}
use Rattle.fir_meaning.specs.MemoryPorts.{MemoryPort, memory_ports}
use Rattle.fir_meaning.specs.ClockRoot.{named_leaves}
use Rattle.drive_check.specs.Keys.{leaf_of_key}
use Rattle.clock_check.specs.Clocked.{clock_leaf}
use Rattle.clock_check.specs.declared.hung.Hung.{Hung}

-- a place, and the leaf there, where there is one
abbrev pub Hangs : Type 0
Hangs = Place × Option Leaf

abbrev pub hung_of : List Hung → List Hangs
hung_of = map (λ h. (h.place, option_map leaf_of_key h.clock))

abbrev pub line_hung : ℕ → MemLine → List Hangs
line_hung memory (line.MemPort at mode name) = (name.place, Some (clock_leaf memory name.id)) ∷ []
line_hung memory _ = []

abbrev pub port_hung : ℕ → MemoryPort → Hangs
port_hung memory port = (port.place, Some (clock_leaf memory port.name))

abbrev pub all_hung : List (List Hangs) → List Hangs
all_hung = flat_map (λ hung. hung)

module _ (types : Scope) where
  abbrev pub register_hung : Place → Expr → Hangs
  register_hung place clock = (place, slice_get (named_leaves types clock) 0)

  abbrev pub of_stmt : Stmt-F (List Hangs) (List Hangs) → List Hangs
  of_stmt (Stmt-F.Reg name typ clock) = register_hung name.place clock ∷ []
  of_stmt (Stmt-F.RegReset name typ clock reset init) = register_hung name.place clock ∷ []
  of_stmt (Stmt-F.Mem memory) = flat_map (line_hung memory.name.id) memory.lines
  of_stmt (Stmt-F.When arms other) = all_hung arms ++ all_hung other
  of_stmt _ = []

  abbrev pub of_arm : Arm-F (List Hangs) (List Hangs) → List Hangs
  of_arm arm = all_hung arm.body

  -- those of a statement, the blocks in it included
  abbrev pub stmt_hung : Stmt → List Hangs
  stmt_hung = fold-Stmt (List Hangs) (List Hangs) of_stmt of_arm

  abbrev pub arm_hung : Arm → List Hangs
  arm_hung = fold-Arm (List Hangs) (List Hangs) of_stmt of_arm

  -- those of a module
  abbrev pub module_hung : Module → List Hangs
  module_hung holder = flat_map stmt_hung holder.body

  -- those of a declaration
  abbrev pub sort_hung : Declaration → Sort → List Hangs
  sort_hung d (A_register clock) = register_hung d.place clock ∷ []
  sort_hung d (A_reset_register clock reset init) = register_hung d.place clock ∷ []
  sort_hung d (A_memory memory) = map (port_hung d.name) (memory_ports memory)
  sort_hung d _ = []

  abbrev pub hung_by : Declaration → List Hangs
  hung_by d = sort_hung d d.sort
