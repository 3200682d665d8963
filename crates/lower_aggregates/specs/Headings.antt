-- The names of a module's declarations and what they make, without their blocks (FIRRTL specification 3.0, "Circuits and Modules").
use Rattle.std.specs.Prelude.{ℕ, ◌++◌, List, [], ◌∷◌, map, flat_map, if◌then◌else◌}
use Rattle.place_text.specs.declared.place.Place.{Place}
use Rattle.fir_types.specs.declared.name.Name.{Name}
use Rattle.fir_types.specs.declared.port.Port.{Port}
use Rattle.fir_tree.specs.declared.circuit.Module.{Module}
use Rattle.fir_tree.specs.declared.stmt.Stmt.{Stmt, fold-Stmt}
use Rattle.fir_tree.specs.declared.stmt.Arm.{Arm, fold-Arm}
use Rattle.fir_tree.specs.declared.stmt.Stmt.TheOpen.{Stmt-F, Arm-F}
use Rattle.fir_meaning.specs.Components.{Sort, Declaration, An_input, An_output, A_wire, A_register, A_reset_register, A_memory, An_instance, A_node}

-- A declaration without its block.
pub record Heading : Type 0 where
  pub name : ℕ
  pub place : Place
  pub sort : Sort

abbrev pub heading : Name → Sort → Heading
heading name sort = record { name = name.id; place = name.place; sort = sort }

abbrev pub heading_of : Declaration → Heading
heading_of d = record { name = d.name; place = d.place; sort = d.sort }

-- all of these lists, in order
abbrev pub all_headings : List (List Heading) → List Heading
all_headings = flat_map (λ headings. headings)

-- what a statement declares, the statements in the blocks within it included
abbrev pub of_stmt : Stmt-F (List Heading) (List Heading) → List Heading
of_stmt (Stmt-F.Wire name typ) = heading name A_wire ∷ []
of_stmt (Stmt-F.Reg name typ clock) = heading name (A_register clock) ∷ []
of_stmt (Stmt-F.RegReset name typ clock reset init) = heading name (A_reset_register clock reset init) ∷ []
of_stmt (Stmt-F.Mem memory) = heading memory.name (A_memory memory) ∷ []
of_stmt (Stmt-F.Inst name target) = heading name (An_instance target.id) ∷ []
of_stmt (Stmt-F.Node name expr) = heading name (A_node expr) ∷ []
of_stmt (Stmt-F.When arms other) = all_headings arms ++ all_headings other
of_stmt _ = []

abbrev pub of_arm : Arm-F (List Heading) (List Heading) → List Heading
of_arm arm = all_headings arm.body

abbrev pub stmt_headings : Stmt → List Heading
stmt_headings = fold-Stmt (List Heading) (List Heading) of_stmt of_arm

abbrev pub arm_headings : Arm → List Heading
arm_headings = fold-Arm (List Heading) (List Heading) of_stmt of_arm

abbrev pub port_heading : Port → Heading
port_heading port = heading port.name (if port.output then An_output else An_input)

-- The declarations of a module in text order, ports first.
abbrev pub headings_of : Module → List Heading
headings_of holder = map port_heading holder.ports ++ flat_map stmt_headings holder.body
