-- The fitted types of a circuit and the faults of its widths (FIRRTL specification 3.0, "Width Inference", "Primitive Operations",
-- "Conditionals"). Fitted types are told of all modules; faults only of those that the main module reaches.
use Rattle.std.specs.Prelude.{ℕ, ◌+◌, nat_eq, nat_le, not, ◌&&◌, Bool, true, false, List, [], ◌∷◌, ◌++◌, map, flat_map, slice_index, drop, get_or, Option}
use Rattle.std.specs.List.{list_any}
use Rattle.place_text.specs.declared.place.Place.{Place}
use Rattle.fir_types.specs.declared.fir_type.FirType.{FirType}
use Rattle.fir_types.specs.declared.name.Name.{Name}
use Rattle.fir_types.specs.declared.port.Port.{Port}
use Rattle.fir_types.specs.Memories.{element_of}
use Rattle.fir_types.specs.Bundles.{memory_of}
use Rattle.prim_ops.specs.declared.operation.PrimOp.{PrimOp}
use Rattle.prim_ops.specs.declared.operation.PrimOp.TheVariants as op
use Rattle.prim_ops.specs.declared.widths.Width.{Width}
use Rattle.prim_ops.specs.declared.widths.Width.TheVariants.{Bits, Over}
use Rattle.fir_tree.specs.declared.scope.Checked.{Checked}
use Rattle.fir_tree.specs.declared.expr.Expr.{Expr, fold-Expr}
use Rattle.fir_tree.specs.declared.expr.Suffix.{Suffix, fold-Suffix}
use Rattle.fir_tree.specs.declared.expr.Form.TheOpen.{Form-F, Suffix-F, Expr-F}
use Rattle.fir_tree.specs.declared.stmt.Stmt.{Stmt, fold-Stmt}
use Rattle.fir_tree.specs.declared.stmt.Arm.{Arm, fold-Arm}
use Rattle.fir_tree.specs.declared.stmt.Stmt.TheOpen.{Stmt-F, Arm-F}
use Rattle.width_rules.specs.declared.component.Component.{Component}
use Rattle.width_rules.specs.declared.slot.Slot.{Slot}
use Rattle.width_rules.specs.declared.slot.Slot.TheVariants as slot
use Rattle.width_rules.specs.declared.rule.Rule.{Rule}
use Rattle.width_rules.specs.Formulas.{level, width_under}
use Rattle.width_rules.specs.Places.{capped, spots, slots_from, open_spots, node_slots, node_size}
use Rattle.width_rules.specs.Sources.{Known, Measured, measured_reference, component, named, field_step, element_step, operation, choice, literal_bits, lone}
use Rattle.fir_tree.specs.Turns.{in_order}
use Rattle.fir_tree.specs.Parts.{source_of}
use Rattle.fir_tree.specs.Kinds.{ground}
use Rattle.bit_words.specs.declared.value.Kind.{Kind as Sign}
use Rattle.bit_words.specs.declared.number.Number.{Number}
use Rattle.bit_words.specs.Numbers.{integer_of_number}
use Rattle.width_rules.specs.declared.rule.Formula.TheVariants as formula
use Rattle.fir_types.specs.declared.memory.Memory.{Memory}
use Rattle.width_rules.specs.Circuits.{WithPorts, modules_from, all_open, rules_in, known_ports, instance_in, memory_slots, declares_memory, declares_instance, names_node}
use Rattle.width_rules.specs.Circuits.{declares as storage}
use Rattle.width_fit.specs.declared.fault.WidthFault.TheVariants.{WidthUnknown, WidthOver, ParameterRange, ConditionWidth}
use Rattle.width_fit.specs.declared.fault.WidthFault.{WidthFault}
use Rattle.type_filling.specs.Filling.{filled}
pub use Rattle.part_fits.specs.Widths.{slot_width, is_over}

-- What is known of all widths: those of the variables, and the rules.
pub record Solved : Type 0 where
  pub widths : List Width
  pub rules : List Rule

abbrev pub where_ : Bool → WidthFault → List WidthFault
where_ true fault = fault ∷ []
where_ false fault = []

-- a variable that no rule has as its target
abbrev pub is_unknown : List Rule → Slot → Bool
is_unknown rules (slot.Fixed n) = false
is_unknown rules (slot.Var x) = not (list_any (λ rule. nat_eq rule.target x) rules)

-- The faults of a component, from the widths of its places.
abbrev pub component_faults : Solved → Place → List Slot → List WidthFault
component_faults all place slots =
    where_ (list_any (is_unknown all.rules) slots) (WidthUnknown place) ++ where_ (list_any (λ s. is_over (slot_width all.widths s)) slots) (WidthOver place)

-- Expressions: the formulas of a node, the fitted types of all nodes in text order, and the faults.

pub record Survey : Type 0 where
  pub place : Place
  pub measured : Measured
  pub nodes : List FirType
  pub faults : List WidthFault

abbrev pub Among : Type 0
Among = Known → Survey

abbrev pub widths_of : List Width → Measured → List Width
widths_of widths m = map (λ f. width_under f widths) m.formulas

-- a node with these faults of its own, over its operands
abbrev pub surveyed : List Width → Place → Measured → List WidthFault → List Survey → Survey
surveyed widths place m own operands = record {
  place = place;
  measured = m;
  nodes = filled m.part.typ (widths_of widths m) ∷ flat_map (λ s. s.nodes) operands;
  faults = flat_map (λ s. s.faults) operands ++ (where_ (list_any is_over (widths_of widths m)) (WidthOver place) ++ own);
}

-- the width of what is no bundle and no vector
abbrev pub lone_width : List Width → Measured → Width
lone_width widths m = width_under (lone m.formulas) widths

-- A condition has at most one bit.
abbrev pub condition_faults : List Width → Survey → List WidthFault
condition_faults widths condition = where_ (not (nat_le (level (lone_width widths condition.measured)) 1)) (ConditionWidth condition.place)

-- The parameters of an operation fit its operand of this width: `lo <= hi < w` for `bits`, and `n <= w` for `head` and `tail`.
abbrev pub fit_on : PrimOp → ℕ → ℕ → ℕ → Bool
fit_on op.Bits w high low = nat_le low high && nat_le (high + 1) w
fit_on op.Head w n low = nat_le n w
fit_on op.Tail w n low = nat_le n w
fit_on _ w n low = true

abbrev pub fit_width : PrimOp → List ℕ → Width → Bool
fit_width prim params (Bits w) = fit_on prim w (slice_index params 0) (slice_index params 1)
fit_width prim params Over = true

abbrev pub parameter_faults : List Width → PrimOp → Place → List ℕ → List Survey → List WidthFault
parameter_faults widths prim place params (operand ∷ []) = where_ (not (fit_width prim params (lone_width widths operand.measured))) (ParameterRange place)
parameter_faults widths prim place params _ = []

abbrev pub choice_faults : List Width → List Survey → List WidthFault
choice_faults widths (condition ∷ operands) = condition_faults widths condition
choice_faults widths [] = []

-- A step of a reference, with what is found in its index.
pub record Step : Type 0 where
  pub to : Component → Component
  pub index : Known → List Survey

abbrev pub measured_literal : Sign → Option ℕ → Number → Place → Measured
measured_literal kind width number place =
    record { part = source_of (ground place kind width); formulas = formula.Fixed (capped (literal_bits kind (integer_of_number number) width)) ∷ [] }

abbrev pub of_form : List Width → Form-F (Place → Among) Step Among → Place → Among
of_form widths (Form-F.Ref name suffixes) place known =
    surveyed widths place (measured_reference (named (map (λ step. step.to) suffixes) (component known name.id))) [] (flat_map (λ step. step.index known) suffixes)
of_form widths (Form-F.Literal kind width number) place known =
    surveyed widths place (measured_literal kind width number place) [] []
of_form widths (Form-F.Prim prim operands params) place known =
    let all = map (λ e. e known) operands in
    surveyed widths place (operation prim place (map (λ s. s.measured) all) params) (parameter_faults widths prim place params all) all
of_form widths (Form-F.Mux operands) place known =
    let all = map (λ e. e known) operands in
    surveyed widths place (choice (map (λ s. s.measured) all)) (choice_faults widths all) all

abbrev pub of_suffix : Suffix-F (Place → Among) Step Among → Step
of_suffix (Suffix-F.Field name) = record { to = field_step name.id; index = λ known. [] }
of_suffix (Suffix-F.At bracket at n) = record { to = element_step; index = λ known. [] }
of_suffix (Suffix-F.Index bracket index) = record { to = element_step; index = λ known. index known ∷ [] }

abbrev pub of_expr : Expr-F (Place → Among) Step Among → Among
of_expr e = e.form e.place

abbrev pub survey : List Width → Expr → Among
survey widths = fold-Expr (Place → Among) Step Among (of_form widths) of_suffix of_expr

abbrev pub suffix_step : List Width → Suffix → Step
suffix_step widths = fold-Suffix (Place → Among) Step Among (of_form widths) of_suffix of_expr

-- Statements: what is known behind them, how many variables they have, the fitted types of their declarations and of their
-- expressions in text order, and the faults.

pub record Findings : Type 0 where
  pub known : Known
  pub count : ℕ
  pub declared : List FirType
  pub nodes : List FirType
  pub faults : List WidthFault

-- among what is known, with variables from this number on
abbrev pub Surveys : Type 0
Surveys = Known → ℕ → Findings

abbrev pub nothing : Surveys
nothing known n = record { known = known; count = 0; declared = []; nodes = []; faults = [] }

abbrev pub and_then : Surveys → Surveys → Surveys
and_then first second known n =
    let a = first known n in
    let b = second a.known (n + a.count) in
    record { known = b.known; count = a.count + b.count; declared = a.declared ++ b.declared; nodes = a.nodes ++ b.nodes; faults = a.faults ++ b.faults }

abbrev pub in_turn : List Surveys → Surveys
in_turn = in_order and_then nothing

-- an expression, and where it is a condition
abbrev pub looks_at : List Width → Expr → Surveys
looks_at widths e known n = let s = survey widths e known in record { known = known; count = 0; declared = []; nodes = s.nodes; faults = s.faults }

abbrev pub asks : List Width → Expr → Surveys
asks widths e known n =
    let s = survey widths e known in
    record { known = known; count = 0; declared = []; nodes = s.nodes; faults = s.faults ++ condition_faults widths s }

-- a declaration: what the rules' walk knows behind it, its fitted type, and its faults
abbrev pub declares : Known → ℕ → FirType → List WidthFault → Findings
declares known count typ faults = record { known = known; count = count; declared = typ ∷ []; nodes = []; faults = faults }

abbrev pub of_storage : Solved → Name → FirType → Surveys
of_storage all name typ known n =
    let slots = slots_from n (spots typ) in
    declares (storage name typ known n).known (open_spots (spots typ)) (filled typ (map (slot_width all.widths) slots)) (component_faults all name.place slots)

abbrev pub of_memory : Solved → Memory → Surveys
of_memory all memory known n =
    let element = slots_from n (spots (element_of memory)) in
    declares (declares_memory memory known n).known (open_spots (spots (element_of memory)))
    (filled (memory_of memory) (map (slot_width all.widths) (memory_slots memory element))) (component_faults all memory.name.place element)

abbrev pub of_instance : Solved → List WithPorts → Name → Name → Surveys
of_instance all modules name target known n =
    let there' = instance_in modules target.id in
    declares (declares_instance modules name target known n).known 0 (filled there'.part.typ (map (slot_width all.widths) there'.slots)) []

abbrev pub of_node : Solved → Name → Expr → Surveys
of_node all name e known n =
    let s = survey all.widths e known in
    let slots = node_slots n s.measured.part.typ in
    record {
      known = (names_node name e known n).known;
      count = node_size s.measured.part.typ;
      declared = filled s.measured.part.typ (map (slot_width all.widths) slots) ∷ [];
      nodes = s.nodes;
      faults = s.faults ++ component_faults all name.place slots;
    }

abbrev pub of_stmt : Solved → List WithPorts → Stmt-F Surveys Surveys → Surveys
of_stmt all modules (Stmt-F.Wire name typ) = of_storage all name typ
of_stmt all modules (Stmt-F.Reg name typ clock) = and_then (looks_at all.widths clock) (of_storage all name typ)
of_stmt all modules (Stmt-F.RegReset name typ clock reset init) =
    and_then (looks_at all.widths clock) (and_then (asks all.widths reset) (and_then (looks_at all.widths init) (of_storage all name typ)))
of_stmt all modules (Stmt-F.Mem memory) = of_memory all memory
of_stmt all modules (Stmt-F.Inst name target) = of_instance all modules name target
of_stmt all modules (Stmt-F.Node name e) = of_node all name e
of_stmt all modules (Stmt-F.Connect left right) = and_then (looks_at all.widths left) (looks_at all.widths right)
of_stmt all modules (Stmt-F.Invalidate target) = looks_at all.widths target
of_stmt all modules (Stmt-F.When arms other) = and_then (in_turn arms) (in_turn other)
of_stmt all modules (Stmt-F.Skip place) = nothing

abbrev pub of_arm : Solved → Arm-F Surveys Surveys → Surveys
of_arm all arm = and_then (asks all.widths arm.condition) (in_turn arm.body)

abbrev pub stmt_survey : Solved → List WithPorts → Stmt → Surveys
stmt_survey all modules = fold-Stmt Surveys Surveys (of_stmt all modules) (of_arm all)

abbrev pub arm_survey : Solved → List WithPorts → Arm → Surveys
arm_survey all modules = fold-Arm Surveys Surveys (of_stmt all modules) (of_arm all)

-- Modules: their ports, and then their bodies.

abbrev pub ports_declared : Solved → List Port → List (List Slot) → List FirType
ports_declared all (port ∷ ports) (slots ∷ rest) = filled port.typ (map (slot_width all.widths) slots) ∷ ports_declared all ports rest
ports_declared all _ _ = []

abbrev pub ports_faults : Solved → List Port → List (List Slot) → List WidthFault
ports_faults all (port ∷ ports) (slots ∷ rest) = component_faults all port.name.place slots ++ ports_faults all ports rest
ports_faults all _ _ = []

abbrev pub module_survey : Solved → List WithPorts → WithPorts → ℕ → Findings
module_survey all modules m n =
    let body = in_turn (map (stmt_survey all modules) m.holder.body) (known_ports m.holder.ports m.ports []) n in
    record {
      known = body.known;
      count = body.count;
      declared = ports_declared all m.holder.ports m.ports ++ body.declared;
      nodes = body.nodes;
      faults = ports_faults all m.holder.ports m.ports ++ body.faults;
    }

-- What is told of a whole circuit: the fitted types, and the faults of the modules that main reaches.
pub record Told : Type 0 where
  pub declared : List FirType
  pub nodes : List FirType
  pub faults : List WidthFault

abbrev pub where_reached : Bool → List WidthFault → List WidthFault
where_reached true faults = faults
where_reached false faults = []

abbrev pub told_from : Solved → List WithPorts → ℕ → List WithPorts → List Bool → Told
told_from all modules n [] reached = record { declared = []; nodes = []; faults = [] }
told_from all modules n (m ∷ rest) reached =
    let one = module_survey all modules m n in
    let others = told_from all modules (n + one.count) rest (drop 1 reached) in
    record {
      declared = one.declared ++ others.declared;
      nodes = one.nodes ++ others.nodes;
      faults = where_reached (get_or reached 0 false) one.faults ++ others.faults;
    }

abbrev pub told_of : Checked → List Width → Told
told_of checked widths =
    let modules = modules_from 0 checked.resolved.modules in
    told_from (record { widths = widths; rules = (rules_in checked.resolved).rules }) modules (all_open checked.resolved.modules) modules checked.scope.reached
