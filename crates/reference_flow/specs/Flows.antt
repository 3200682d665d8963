-- The flows of references (FIRRTL specification 3.0, "Flows"): by the declaration, and then by each step of the reference. A field
-- that is flipped turns a source and a sink round, and duplex stays; an index keeps the flow.
use Rattle.std.specs.Prelude.{ℕ, nat_eq, List, [], ◌∷◌, ◌++◌, map, flat_map, get_or, fold}
use Rattle.std.specs.Map.{lookup}
use Rattle.fir_types.specs.declared.port.Port.{Port}
use Rattle.fir_types.specs.Bundles.{memory_of}
use Rattle.fir_tree.specs.declared.circuit.Circuit.{Circuit}
use Rattle.fir_tree.specs.declared.circuit.Module.{Module}
use Rattle.fir_tree.specs.declared.expr.Expr.{Expr, fold-Expr}
use Rattle.fir_tree.specs.declared.expr.Suffix.{Suffix, fold-Suffix}
use Rattle.fir_tree.specs.declared.expr.Form.TheOpen.{Form-F, Suffix-F, Expr-F}
use Rattle.fir_tree.specs.declared.stmt.Stmt.{Stmt, fold-Stmt}
use Rattle.fir_tree.specs.declared.stmt.Arm.{Arm, fold-Arm}
use Rattle.fir_tree.specs.declared.stmt.Stmt.TheOpen.{Stmt-F, Arm-F}
use Rattle.fir_tree.specs.declared.part.Flow.{Flow}
use Rattle.fir_tree.specs.declared.part.Flow.TheVariants.{Source, Duplex}
use Rattle.fir_tree.specs.declared.part.Part.{Part}
use Rattle.fir_tree.specs.Parts.{no_part, part_or_none, field_part, element_part, part_of, source_of, port_flow, instance_in}

-- The components of a module by the numbers of their names.
abbrev pub Components : Type 0
Components = ℕ → Part

-- The flows of the references in an expression, among the components of a module.
abbrev pub Flows : Type 0
Flows = Components → List Flow

-- A step of a reference, with the flows of the references in its index.
pub record Step : Type 0 where
  pub to : Part → Part
  pub flows : Flows

-- the part that a reference names
abbrev pub named : List Step → Part → Part
named steps base = fold (λ part step. step.to part) base steps

abbrev pub of_form : Form-F Flows Step Flows → Flows
of_form (Form-F.Ref name suffixes) components = (named suffixes (components name.id)).flow ∷ flat_map (λ step. step.flows components) suffixes
of_form (Form-F.Literal sign width number) components = []
of_form (Form-F.Prim op operands params) components = flat_map (λ flows. flows components) operands
of_form (Form-F.Mux operands) components = flat_map (λ flows. flows components) operands

abbrev pub of_suffix : Suffix-F Flows Step Flows → Step
of_suffix (Suffix-F.Field name) = record { to = field_part name.id; flows = λ components. [] }
of_suffix (Suffix-F.At bracket at n) = record { to = element_part; flows = λ components. [] }
of_suffix (Suffix-F.Index bracket index) = record { to = element_part; flows = index }

abbrev pub of_expr : Expr-F Flows Step Flows → Flows
of_expr e = e.form

-- the flows of the references of an expression in text order: a reference itself, and then those in its indices
abbrev pub expr_flows : Expr → Flows
expr_flows = fold-Expr Flows Step Flows of_form of_suffix of_expr

abbrev pub suffix_step : Suffix → Step
suffix_step = fold-Suffix Flows Step Flows of_form of_suffix of_expr

-- What statements declare: a wire and a register are duplex, and all else is a source. The type of a node has no flip, so
-- nothing is asked of it.

abbrev pub Declared : Type 0
Declared = List (ℕ × Part)

abbrev pub of_declaring : List Module → Stmt-F Declared Declared → Declared
of_declaring modules (Stmt-F.Wire name typ) = (name.id, part_of typ Duplex) ∷ []
of_declaring modules (Stmt-F.Reg name typ clock) = (name.id, part_of typ Duplex) ∷ []
of_declaring modules (Stmt-F.RegReset name typ clock reset init) = (name.id, part_of typ Duplex) ∷ []
of_declaring modules (Stmt-F.Mem memory) = (memory.name.id, source_of (memory_of memory)) ∷ []
of_declaring modules (Stmt-F.Inst name target) = (name.id, part_or_none (instance_in modules target.id)) ∷ []
of_declaring modules (Stmt-F.Node name e) = (name.id, no_part) ∷ []
of_declaring modules (Stmt-F.When arms other) = flat_map (λ d. d) arms ++ flat_map (λ d. d) other
of_declaring modules _ = []

abbrev pub of_declaring_arm : Arm-F Declared Declared → Declared
of_declaring_arm arm = flat_map (λ d. d) arm.body

abbrev pub stmt_declared : List Module → Stmt → Declared
stmt_declared modules = fold-Stmt Declared Declared (of_declaring modules) of_declaring_arm

abbrev pub port_declared : Port → ℕ × Part
port_declared port = (port.name.id, part_of port.typ (port_flow port))

-- the components of a module: all have different names, and of one name the first counts
abbrev pub declared_in : List Module → Module → Declared
declared_in modules m = map port_declared m.ports ++ flat_map (stmt_declared modules) m.body

abbrev pub components_of : List Module → Module → Components
components_of modules m name = part_or_none (lookup (nat_eq name) (declared_in modules m))

-- the flows of the references of statements in text order
abbrev pub of_stmt : Stmt-F Flows Flows → Flows
of_stmt (Stmt-F.Reg name typ clock) components = expr_flows clock components
of_stmt (Stmt-F.RegReset name typ clock reset init) components = expr_flows clock components ++ (expr_flows reset components ++ expr_flows init components)
of_stmt (Stmt-F.Node name e) components = expr_flows e components
of_stmt (Stmt-F.Connect left right) components = expr_flows left components ++ expr_flows right components
of_stmt (Stmt-F.Invalidate target) components = expr_flows target components
of_stmt (Stmt-F.When arms other) components = flat_map (λ flows. flows components) arms ++ flat_map (λ flows. flows components) other
of_stmt _ components = []

abbrev pub of_arm : Arm-F Flows Flows → Flows
of_arm arm components = expr_flows arm.condition components ++ flat_map (λ flows. flows components) arm.body

abbrev pub stmt_flows : Stmt → Flows
stmt_flows = fold-Stmt Flows Flows of_stmt of_arm

abbrev pub arm_flows : Arm → Flows
arm_flows = fold-Arm Flows Flows of_stmt of_arm

abbrev pub module_flows : List Module → Module → List Flow
module_flows modules m = flat_map (λ s. stmt_flows s (components_of modules m)) m.body

-- The flows of all references of a circuit in text order.
abbrev pub reference_flows : Circuit → List Flow
reference_flows circuit = flat_map (module_flows circuit.modules) circuit.modules

-- the flow of the reference with this number
abbrev pub flow_number : Circuit → ℕ → Flow
flow_number circuit n = get_or (reference_flows circuit) n Source
