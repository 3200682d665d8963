-- The walk through the bodies, where the components of instances are listed.
use Rattle.std.specs.Prelude.{◌≡◌, ℕ, nat_eq, ◌+◌, ◌==◌, List, [], ◌∷◌, ◌++◌, map, length, find, option_map}
use Rattle.std.specs.Map.{lookup}
use Rattle.fir_types.specs.declared.name.Name.{Name}
use Rattle.fir_types.specs.declared.memory.Memory.{Memory}
use Rattle.fir_types.specs.Memories.{element_of}
use Rattle.fir_types.specs.Bundles.{memory_of}
use Rattle.fir_tree.specs.Parts.{source_of}
use Rattle.fir_tree.specs.declared.stmt.Stmt.{Stmt, fold-Stmt}
use Rattle.fir_tree.specs.declared.stmt.Arm.{Arm, fold-Arm}
use Rattle.fir_tree.specs.declared.stmt.Stmt.TheOpen.{Stmt-F}
use Rattle.width_rules.specs.declared.component.Component.{Component}
use Rattle.width_rules.specs.declared.gathering.Ported.{Ported}
use Rattle.width_rules.specs.Places.{spots, slots_from}
use Rattle.width_rules.specs.Sources.{Known, component, known_with}
use Rattle.width_rules.specs.Circuits.{Walk, Gathered, WithPorts, Bodies, in_turn, of_stmt, of_arm, memory_slots, instance_component, known_ports}

-- A component without variables of its own.
abbrev pub declares_component : Name → Component → Walk
declares_component name sized known n = record { known = known_with known name.id sized; places = []; rules = [] }

abbrev pub memory_component : Memory → ℕ → Component
memory_component memory n = record { part = source_of (memory_of memory); slots = memory_slots memory (slots_from n (spots (element_of memory))) }

-- Statements, where the components of the modules' instances are listed by the names of the modules.

abbrev pub of_stmt_among : Known → Stmt-F Walk Walk → Walk
of_stmt_among instances (Stmt-F.Inst name target) = declares_component name (component instances target.id)
of_stmt_among instances stmt = of_stmt [] stmt

abbrev pub stmt_walk_among : Known → Stmt → Walk
stmt_walk_among instances = fold-Stmt Walk Walk (of_stmt_among instances) of_arm

abbrev pub arm_walk_among : Known → Arm → Walk
arm_walk_among instances = fold-Arm Walk Walk (of_stmt_among instances) of_arm

-- the list of instances of these modules: of each name the first
pub record AreInstances (modules : List WithPorts) (instances : Known) : Type 0 where
  pub found : (name : ℕ) → lookup (nat_eq name) instances ≡ option_map instance_component (find (λ m. m.holder.name.id == name) modules)

abbrev pub ported : Ported → WithPorts
ported held = record { holder = held.holder.now; ports = held.ports }

abbrev pub body_among : Known → WithPorts → ℕ → Gathered
body_among instances m n = in_turn (map (stmt_walk_among instances) m.holder.body) (known_ports m.holder.ports m.ports []) n

abbrev pub bodies_among : Known → ℕ → List WithPorts → Bodies
bodies_among instances n [] = record { places = []; rules = [] }
bodies_among instances n (m ∷ rest) =
    let body = body_among instances m n in
    let others = bodies_among instances (n + length body.places) rest in
    record { places = body.places ++ others.places; rules = body.rules ++ others.rules }
