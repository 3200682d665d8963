-- The rules of a circuit (FIRRTL specification 3.0, "Width Inference"): each connect of a place with a variable gives the rule that it is
-- at least the source's width, through instances as well; so do the value after a reset and the expression of a node; an
-- `invalidate` gives the rule 0 to what it drives. A place with a declared width has no rule.
use Rattle.std.specs.Prelude.{ℕ, ◌+◌, ◌==◌, Bool, true, false, List, [], ◌∷◌, ◌++◌, map, flat_map, length, replicate, find, option_map}
use Rattle.place_text.specs.declared.place.Place.{Place}
use Rattle.fir_types.specs.declared.fir_type.FirType.{FirType}
use Rattle.fir_types.specs.declared.port.Port.{Port}
use Rattle.fir_types.specs.declared.name.Name.{Name}
use Rattle.fir_types.specs.declared.memory.Memory.{Memory}
use Rattle.fir_types.specs.declared.memory.MemLine.{MemLine}
use Rattle.fir_types.specs.declared.memory.MemLine.TheVariants as line
use Rattle.fir_types.specs.declared.memory.PortMode.{PortMode}
use Rattle.fir_types.specs.declared.memory.PortMode.TheVariants as mode
use Rattle.fir_types.specs.Memories.{element_of, depth_of}
use Rattle.fir_types.specs.Bundles.{instance_of, memory_of, address_bits, mask_of}
use Rattle.fir_tree.specs.declared.circuit.Circuit.{Circuit}
use Rattle.fir_tree.specs.declared.circuit.Module.{Module}
use Rattle.fir_tree.specs.declared.expr.Expr.{Expr}
use Rattle.fir_tree.specs.declared.stmt.Stmt.{Stmt, fold-Stmt}
use Rattle.fir_tree.specs.declared.stmt.Arm.{Arm, fold-Arm}
use Rattle.fir_tree.specs.declared.stmt.Stmt.TheOpen.{Stmt-F, Arm-F}
use Rattle.fir_tree.specs.declared.part.Flow.{Flow}
use Rattle.fir_tree.specs.declared.part.Flow.TheVariants.{Source, Sink, Duplex}
use Rattle.fir_tree.specs.Turns.{in_order}
use Rattle.fir_tree.specs.Parts.{part_of, source_of, flow_through, port_flow}
use Rattle.width_rules.specs.declared.component.Component.{Component}
use Rattle.width_rules.specs.declared.slot.Slot.{Slot}
use Rattle.width_rules.specs.declared.slot.Slot.TheVariants as slot
use Rattle.width_rules.specs.declared.rule.Formula.{Formula}
use Rattle.width_rules.specs.declared.rule.Formula.TheVariants as formula
use Rattle.width_rules.specs.declared.rule.Rule.{Rule}
use Rattle.width_rules.specs.declared.rule.Rules.{Rules}
use Rattle.width_rules.specs.Places.{Spot, spots, slots_from, open_spots, node_slots, node_size}
use Rattle.width_rules.specs.Sources.{Known, known_with, measured, formula_of, component_or_none}

-- Rules

-- the rule that a place with a variable is at least a formula
abbrev pub at_least : Formula → Formula → List Rule
at_least (formula.Var x) source = record { target = x; formula = source } ∷ []
at_least _ source = []

-- Each place is at least the source's: left from right, and right from left where it is flipped.
abbrev pub driven : Bool → Formula → Formula → List Rule
driven false left right = at_least left right
driven true left right = at_least right left

abbrev pub connected : List Spot → List Formula → List Formula → List Rule
connected (spot ∷ rest) (l ∷ ls) (r ∷ rs) = driven spot.flip l r ++ connected rest ls rs
connected _ _ _ = []

-- an `invalidate` drives what isn't a source
abbrev pub zeroed : Flow → Formula → List Rule
zeroed Source f = []
zeroed Sink f = at_least f (formula.Fixed 0)
zeroed Duplex f = at_least f (formula.Fixed 0)

abbrev pub invalidated : Flow → List Spot → List Formula → List Rule
invalidated flow (spot ∷ rest) (f ∷ fs) = zeroed (flow_through spot.flip flow) f ++ invalidated flow rest fs
invalidated flow _ _ = []

-- Ports: those of all modules have the first variables, in text order.

-- the widths of the ports of a module, one port behind another, with variables from n on
abbrev pub ports_from : ℕ → List Port → List (List Slot)
ports_from n [] = []
ports_from n (port ∷ ports) = slots_from n (spots port.typ) ∷ ports_from (n + open_spots (spots port.typ)) ports

abbrev pub open_ports : List Port → ℕ
open_ports [] = 0
open_ports (port ∷ ports) = open_spots (spots port.typ) + open_ports ports

-- A module with the widths of its ports.
pub record WithPorts : Type 0 where
  pub holder : Module
  pub ports : List (List Slot)

abbrev pub modules_from : ℕ → List Module → List WithPorts
modules_from n [] = []
modules_from n (m ∷ modules) = record { holder = m; ports = ports_from n m.ports } ∷ modules_from (n + open_ports m.ports) modules

abbrev pub all_open : List Module → ℕ
all_open [] = 0
all_open (m ∷ modules) = open_ports m.ports + all_open modules

-- the place of a component for each of its variables
abbrev pub places_for : Place → ℕ → List Place
places_for place n = replicate n place

abbrev pub port_places : Port → List Place
port_places port = places_for port.name.place (open_spots (spots port.typ))

-- Memories: the element's places have variables, and all ports share them. An address has as many bits as the depth asks for.

abbrev pub mask_slots : Memory → List Slot
mask_slots memory = map (λ spot. slot.Fixed 1) (spots (mask_of (element_of memory)))

abbrev pub mode_slots : Memory → List Slot → PortMode → List Slot
mode_slots memory element mode.Reader = element
mode_slots memory element mode.Writer = element ++ mask_slots memory
mode_slots memory element mode.ReadWriter = element ++ (slot.Fixed 1 ∷ (element ++ mask_slots memory))

abbrev pub line_slots : Memory → List Slot → MemLine → List Slot
line_slots memory element (line.MemPort at m name) = slot.Fixed (address_bits (depth_of memory)) ∷ (slot.Fixed 1 ∷ mode_slots memory element m)
line_slots memory element _ = []

abbrev pub memory_slots : Memory → List Slot → List Slot
memory_slots memory element = flat_map (line_slots memory element) memory.lines

-- Statements: what is known, the places of the variables, and the rules.

pub record Gathered : Type 0 where
  pub known : Known
  pub places : List Place
  pub rules : List Rule

-- among what is known, with variables from this number on
abbrev pub Walk : Type 0
Walk = Known → ℕ → Gathered

abbrev pub nothing : Walk
nothing known n = record { known = known; places = []; rules = [] }

abbrev pub and_then : Walk → Walk → Walk
and_then first second known n =
    let a = first known n in
    let b = second a.known (n + length a.places) in
    record { known = b.known; places = a.places ++ b.places; rules = a.rules ++ b.rules }

abbrev pub in_turn : List Walk → Walk
in_turn = in_order and_then nothing

-- a wire or a register
abbrev pub declares : Name → FirType → Walk
declares name typ known n = record {
  known = known_with known name.id (record { part = part_of typ Duplex; slots = slots_from n (spots typ) });
  places = places_for name.place (open_spots (spots typ));
  rules = [];
}

-- a register that takes a value after a reset, which doesn't see the register
abbrev pub declares_with : Name → FirType → Expr → Walk
declares_with name typ init known n = record {
  known = known_with known name.id (record { part = part_of typ Duplex; slots = slots_from n (spots typ) });
  places = places_for name.place (open_spots (spots typ));
  rules = connected (spots typ) (map formula_of (slots_from n (spots typ))) (measured init known).formulas;
}

abbrev pub declares_memory : Memory → Walk
declares_memory memory known n = record {
  known = known_with known memory.name.id (record { part = source_of (memory_of memory); slots = memory_slots memory (slots_from n (spots (element_of memory))) });
  places = places_for memory.name.place (open_spots (spots (element_of memory)));
  rules = [];
}

abbrev pub instance_component : WithPorts → Component
instance_component target = record { part = source_of (instance_of target.holder.ports); slots = flat_map (λ slots. slots) target.ports }

-- an instance of the first module of a name
abbrev pub instance_in : List WithPorts → ℕ → Component
instance_in modules name = component_or_none (option_map instance_component (find (λ m. m.holder.name.id == name) modules))

abbrev pub declares_instance : List WithPorts → Name → Name → Walk
declares_instance modules name target known n = record { known = known_with known name.id (instance_in modules target.id); places = []; rules = [] }

-- a node: the variable of a place is at least the expression's width
abbrev pub node_rules : List Slot → List Formula → List Rule
node_rules (s ∷ slots) (f ∷ formulas) = at_least (formula_of s) f ++ node_rules slots formulas
node_rules _ _ = []

abbrev pub names_node : Name → Expr → Walk
names_node name e known n =
    let source = measured e known in
    let slots = node_slots n source.part.typ in
    record {
      known = known_with known name.id (record { part = source_of source.part.typ; slots = slots });
      places = places_for name.place (node_size source.part.typ);
      rules = node_rules slots source.formulas;
    }

abbrev pub connects : Expr → Expr → Walk
connects left right known n =
    let l = measured left known in
    record { known = known; places = []; rules = connected (spots l.part.typ) l.formulas (measured right known).formulas }

abbrev pub invalidates : Expr → Walk
invalidates target known n =
    let t = measured target known in
    record { known = known; places = []; rules = invalidated t.part.flow (spots t.part.typ) t.formulas }

abbrev pub of_stmt : List WithPorts → Stmt-F Walk Walk → Walk
of_stmt modules (Stmt-F.Wire name typ) = declares name typ
of_stmt modules (Stmt-F.Reg name typ clock) = declares name typ
of_stmt modules (Stmt-F.RegReset name typ clock reset init) = declares_with name typ init
of_stmt modules (Stmt-F.Mem memory) = declares_memory memory
of_stmt modules (Stmt-F.Inst name target) = declares_instance modules name target
of_stmt modules (Stmt-F.Node name e) = names_node name e
of_stmt modules (Stmt-F.Connect left right) = connects left right
of_stmt modules (Stmt-F.Invalidate target) = invalidates target
of_stmt modules (Stmt-F.When arms other) = and_then (in_turn arms) (in_turn other)
of_stmt modules (Stmt-F.Skip place) = nothing

abbrev pub of_arm : Arm-F Walk Walk → Walk
of_arm arm = in_turn arm.body

abbrev pub stmt_walk : List WithPorts → Stmt → Walk
stmt_walk modules = fold-Stmt Walk Walk (of_stmt modules) of_arm

abbrev pub arm_walk : List WithPorts → Arm → Walk
arm_walk modules = fold-Arm Walk Walk (of_stmt modules) of_arm

-- the ports of a module as components
abbrev pub known_ports : List Port → List (List Slot) → Known → Known
known_ports (port ∷ ports) (slots ∷ rest) known = known_ports ports rest (known_with known port.name.id (record { part = part_of port.typ (port_flow port); slots = slots }))
known_ports _ _ known = known

-- what the body of a module gives, with variables from this number on
abbrev pub body_walk : List WithPorts → WithPorts → ℕ → Gathered
body_walk modules m n = in_turn (map (stmt_walk modules) m.holder.body) (known_ports m.holder.ports m.ports []) n

pub record Bodies : Type 0 where
  pub places : List Place
  pub rules : List Rule

abbrev pub bodies_from : List WithPorts → ℕ → List WithPorts → Bodies
bodies_from modules n [] = record { places = []; rules = [] }
bodies_from modules n (m ∷ rest) =
    let body = body_walk modules m n in
    let others = bodies_from modules (n + length body.places) rest in
    record { places = body.places ++ others.places; rules = body.rules ++ others.rules }

-- The rules of a circuit: first the ports of all modules, then their bodies, each in text order.
abbrev pub rules_of_modules : List Module → Rules
rules_of_modules modules =
    let with_ports = modules_from 0 modules in
    let ports = flat_map (λ m. flat_map port_places m.ports) modules in
    let bodies = bodies_from with_ports (length ports) with_ports in
    record { places = ports ++ bodies.places; rules = bodies.rules }

abbrev pub rules_in : Circuit → Rules
rules_in circuit = rules_of_modules circuit.modules
