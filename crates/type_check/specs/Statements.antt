-- The conditions on statements (FIRRTL specification 3.0, "Statements", "Connects", "Registers", "Conditionals"). Each is judged where
-- the expressions that it speaks of have types.
use Rattle.std.specs.Prelude.{ℕ, Bool, true, false, ◌&&◌, List, [], ◌++◌, map, flat_map, Option, Some, option_map}
use Rattle.place_text.specs.declared.place.Place.{Place}
use Rattle.fir_types.specs.declared.fir_type.FirType.{FirType}
use Rattle.fir_types.specs.declared.port.Port.{Port}
use Rattle.fir_types.specs.Bundles.{memory_of}
use Rattle.fir_types.specs.Passivity.{has_flip}
use Rattle.fir_tree.specs.declared.circuit.Circuit.{Circuit}
use Rattle.fir_tree.specs.declared.circuit.Module.{Module}
use Rattle.fir_tree.specs.declared.expr.Expr.{Expr}
use Rattle.fir_tree.specs.declared.stmt.Stmt.{Stmt, fold-Stmt}
use Rattle.fir_tree.specs.declared.stmt.Arm.{Arm, fold-Arm}
use Rattle.fir_tree.specs.declared.stmt.Stmt.TheOpen.{Stmt-F, Arm-F}
use Rattle.fir_tree.specs.declared.part.Flow.{Flow}
use Rattle.fir_tree.specs.declared.part.Flow.TheVariants.{Source, Sink, Duplex}
use Rattle.fir_tree.specs.declared.part.Part.{Part}
use Rattle.type_check.specs.declared.fault.TypeFault.TheVariants.{OperandKind, NotEquivalent, FlowSink, FlowSource, ConditionKind, NotPassive}
use Rattle.type_check.specs.declared.fault.TypeFault.{TypeFault}
use Rattle.type_check.specs.Parts.{Known, known_with, unless, when, where_typed}
use Rattle.fir_tree.specs.Turns.{in_order}
use Rattle.fir_tree.specs.Parts.{port_flow, instance_in, part_of, source_of}
use Rattle.type_check.specs.Texts.{twice_in, stored_faults, is_passive, are_equivalent}
use Rattle.fir_tree.specs.Kinds.{is_unsigned, is_reset, is_a_clock}
use Rattle.type_check.specs.Expressions.{found_of}
use Rattle.type_check.specs.Memories.{memory_faults}

-- What is found of statements, from the components that are known before them: those known behind them, the types of their
-- expressions in text order, and the faults.
pub record Findings : Type 0 where
  pub known : Known
  pub nodes : List FirType
  pub faults : List TypeFault

abbrev pub Walk : Type 0
Walk = Known → Findings

abbrev pub nothing : Walk
nothing known = record { known = known; nodes = []; faults = [] }

-- one walk behind another
abbrev pub and_then : Walk → Walk → Walk
and_then first second known =
    let a = first known in
    let b = second a.known in
    record { known = b.known; nodes = a.nodes ++ b.nodes; faults = a.faults ++ b.faults }

abbrev pub in_turn : List Walk → Walk
in_turn = in_order and_then nothing

-- faults that are there whatever is known
abbrev pub notes : List TypeFault → Walk
notes faults known = record { known = known; nodes = []; faults = faults }

-- a declaration
abbrev pub declares : ℕ → Option Part → Walk
declares name part known = record { known = known_with known name part; nodes = []; faults = [] }

-- an expression, with a condition on it
abbrev pub expects : (Part → List TypeFault) → Expr → Walk
expects condition e known = let j = found_of known e in record { known = known; nodes = j.nodes; faults = j.faults ++ where_typed condition j.part }

-- The conditions

abbrev pub clock_faults : Place → Part → List TypeFault
clock_faults at clock = unless (is_a_clock clock.typ) (OperandKind at)

abbrev pub condition_faults : Place → Part → List TypeFault
condition_faults at condition = unless (is_unsigned condition.typ) (ConditionKind at)

-- a reset is a `UInt` or an `AsyncReset`
abbrev pub reset_faults : Place → Part → List TypeFault
reset_faults at reset = unless (is_reset reset.typ) (ConditionKind at)

abbrev pub init_faults : FirType → Place → Part → List TypeFault
init_faults typ at init = unless (are_equivalent typ init.typ) (NotEquivalent at)

abbrev pub node_faults : Place → Part → List TypeFault
node_faults at value = unless (is_passive value.typ) (NotPassive at)

abbrev pub is_source : Flow → Bool
is_source Source = true
is_source _ = false

abbrev pub is_sink : Flow → Bool
is_sink Sink = true
is_sink _ = false

-- what is driven is no source
abbrev pub sink_faults : Place → Part → List TypeFault
sink_faults at left = when (is_source left.flow) (FlowSink at)

-- a source is no sink, or has no flip
abbrev pub source_faults : Place → Part → List TypeFault
source_faults at right = when (is_sink right.flow && has_flip right.typ) (FlowSource at)

abbrev pub equal_faults : Place → Part → Part → List TypeFault
equal_faults at left right = unless (are_equivalent left.typ right.typ) (NotEquivalent at)

-- A connect: each condition is judged where the sides that it speaks of have types.
abbrev pub connects : Expr → Expr → Walk
connects left right known =
    let l = found_of known left in
    let r = found_of known right in
    record {
      known = known;
      nodes = l.nodes ++ r.nodes;
      faults = l.faults ++ (r.faults ++ (where_typed (sink_faults left.place) l.part
          ++ (where_typed (source_faults right.place) r.part ++ where_typed (λ a. where_typed (equal_faults right.place a) r.part) l.part)));
    }

-- A node has the type of its expression, where that has one.
abbrev pub names_node : ℕ → Expr → Walk
names_node name e known =
    let j = found_of known e in
    record {
      known = known_with known name (option_map (λ part. source_of part.typ) j.part);
      nodes = j.nodes;
      faults = j.faults ++ where_typed (node_faults e.place) j.part;
    }

abbrev pub of_stmt : List Module → Stmt-F Walk Walk → Walk
of_stmt modules (Stmt-F.Wire name typ) = and_then (notes (twice_in typ)) (declares name.id (Some (part_of typ Duplex)))
of_stmt modules (Stmt-F.Reg name typ clock) =
    and_then (notes (stored_faults typ)) (and_then (expects (clock_faults clock.place) clock) (declares name.id (Some (part_of typ Duplex))))
of_stmt modules (Stmt-F.RegReset name typ clock reset init) =
    and_then (notes (stored_faults typ)) (and_then (expects (clock_faults clock.place) clock) (and_then (expects (reset_faults reset.place) reset)
    (and_then (expects (init_faults typ init.place) init) (declares name.id (Some (part_of typ Duplex))))))
of_stmt modules (Stmt-F.Mem memory) = and_then (notes (memory_faults memory)) (declares memory.name.id (Some (source_of (memory_of memory))))
of_stmt modules (Stmt-F.Inst name target) = declares name.id (instance_in modules target.id)
of_stmt modules (Stmt-F.Node name e) = names_node name.id e
of_stmt modules (Stmt-F.Connect left right) = connects left right
of_stmt modules (Stmt-F.Invalidate target) = expects (λ part. []) target
of_stmt modules (Stmt-F.When arms other) = and_then (in_turn arms) (in_turn other)
of_stmt modules (Stmt-F.Skip place) = nothing

abbrev pub of_arm : Arm-F Walk Walk → Walk
of_arm arm = and_then (expects (condition_faults arm.condition.place) arm.condition) (in_turn arm.body)

abbrev pub stmt_walk : List Module → Stmt → Walk
stmt_walk modules = fold-Stmt Walk Walk (of_stmt modules) of_arm

abbrev pub arm_walk : List Module → Arm → Walk
arm_walk modules = fold-Arm Walk Walk (of_stmt modules) of_arm

abbrev pub port_walk : Port → Walk
port_walk port = and_then (notes (twice_in port.typ)) (declares port.name.id (Some (part_of port.typ (port_flow port))))

-- a module: its ports, and then its body
abbrev pub module_walk : List Module → Module → Walk
module_walk modules m = and_then (in_turn (map port_walk m.ports)) (in_turn (map (stmt_walk modules) m.body))

-- The types of all expressions of a circuit in text order.
abbrev pub types_of : Circuit → List FirType
types_of circuit = flat_map (λ m. (module_walk circuit.modules m []).nodes) circuit.modules

-- All faults of a circuit's types.
abbrev pub faults_of : Circuit → List TypeFault
faults_of circuit = flat_map (λ m. (module_walk circuit.modules m []).faults) circuit.modules
