-- The nodes of a circuit's expressions in text order, each with the components that are known where it stands (FIRRTL specification
-- 3.0, "Statements", "Conditionals", "Expressions").
use Rattle.std.specs.Prelude.{◌≡◌, List, [], ◌∷◌, ◌++◌, map}
use Rattle.fir_types.specs.declared.fir_type.FirType.{FirType}
use Rattle.fir_tree.specs.declared.circuit.Circuit.{Circuit}
use Rattle.fir_tree.specs.declared.circuit.Module.{Module}
use Rattle.fir_tree.specs.declared.expr.Expr.{Expr}
use Rattle.fir_tree.specs.declared.expr.Form.TheVariants as form
use Rattle.fir_tree.specs.declared.stmt.Stmt.{Stmt}
use Rattle.fir_tree.specs.declared.stmt.Arm.{Arm}
use Rattle.fir_tree.specs.declared.stmt.Stmt.TheOpen.{Stmt-F}
use Rattle.fir_tree.specs.declared.stmt.Stmt.TheViews.{out-Stmt}
use Rattle.fir_tree.specs.declared.part.Part.{Part}
use Rattle.fir_tree.specs.Kinds.{no_type}
use Rattle.type_check.specs.Parts.{Known}
use Rattle.type_check.specs.Statements.{in_turn, stmt_walk, arm_walk, port_walk}
use Rattle.check_laws.specs.Typing.{IsPart}
use Rattle.check_laws.specs.Nodes.{NodesOf, NodesOfEach}

-- a node, and what is known where it stands
pub record Node : Type 0 where
  pub known : Known
  pub e : Expr

abbrev pub at : Known → Expr → Node
at known e = record { known = known; e = e }

-- the expressions of a statement in text order, without those in its branches
abbrev pub expressions_in : Stmt-F Stmt Arm → List Expr
expressions_in (Stmt-F.Reg name typ clock) = clock ∷ []
expressions_in (Stmt-F.RegReset name typ clock reset init) = clock ∷ reset ∷ init ∷ []
expressions_in (Stmt-F.Node name e) = e ∷ []
expressions_in (Stmt-F.Connect left right) = left ∷ right ∷ []
expressions_in (Stmt-F.Invalidate target) = target ∷ []
expressions_in _ = []

-- its arms, and the block of its `else`
abbrev pub arms_in : Stmt-F Stmt Arm → List Arm
arms_in (Stmt-F.When arms other) = arms
arms_in _ = []

abbrev pub else_in : Stmt-F Stmt Arm → List Stmt
else_in (Stmt-F.When arms other) = other
else_in _ = []

-- the components that are known behind a statement, behind arms, and behind the ports of a module
abbrev pub behind : List Module → Known → Stmt → Known
behind modules known s = (stmt_walk modules s known).known

abbrev pub behind_arms : List Module → Known → List Arm → Known
behind_arms modules known arms = (in_turn (map (arm_walk modules) arms) known).known

abbrev pub ports_of : Module → Known
ports_of m = (in_turn (map port_walk m.ports) []).known

mutual
  -- the nodes of a block: those of each statement's expressions, then those in its arms, and then those in its `else`
  pub data NodesIn (modules : List Module) : Known → List Stmt → List Node → Type 0 where
    no_statements : {known : Known} → NodesIn modules known [] []
    one_statement : {known : Known} {s : Stmt} {rest : List Stmt} {own : List Expr} {in_arms in_else others : List Node}
        → NodesOfEach (expressions_in (out-Stmt s)) own → NodesInArms modules known (arms_in (out-Stmt s)) in_arms
        → NodesIn modules (behind_arms modules known (arms_in (out-Stmt s))) (else_in (out-Stmt s)) in_else
        → NodesIn modules (behind modules known s) rest others
        → NodesIn modules known (s ∷ rest) (map (at known) own ++ (in_arms ++ (in_else ++ others)))

  -- of arms: those of each condition, and then those in its block
  pub data NodesInArms (modules : List Module) : Known → List Arm → List Node → Type 0 where
    no_arms : {known : Known} → NodesInArms modules known [] []
    one_arm : {known : Known} {arm : Arm} {rest : List Arm} {own : List Expr} {inside others : List Node}
        → NodesOf arm.condition own → NodesIn modules known arm.body inside → NodesInArms modules (arm_walk modules arm known).known rest others
        → NodesInArms modules known (arm ∷ rest) (map (at known) own ++ (inside ++ others))

pub data NodesOfModules (modules : List Module) : List Module → List Node → Type 0 where
  no_modules : NodesOfModules modules [] []
  one_module : {m : Module} {rest : List Module} {nodes others : List Node} → NodesIn modules (ports_of m) m.body nodes → NodesOfModules modules rest others
      → NodesOfModules modules (m ∷ rest) (nodes ++ others)

-- The nodes of all expressions that stand in a circuit's statements, in text order.
abbrev pub NodesOfCircuit : Circuit → List Node → Type 0
NodesOfCircuit circuit = NodesOfModules circuit.modules circuit.modules

-- a choice has three operands
abbrev pub HasThree : Expr → Type 0
HasThree e = (operands : List Expr) → e.form ≡ form.Mux operands
    → (condition : Expr) × (first : Expr) × (second : Expr) × (operands ≡ condition ∷ first ∷ second ∷ [])

-- A node that is a part is listed with its type, and one that is none with an empty bundle.
pub data IsListed (node : Node) : FirType → Type 0 where
  a_part : (part : Part) → IsPart node.known node.e part → IsListed node part.typ
  no_part : ((part : Part) → ¬ (IsPart node.known node.e part)) → IsListed node (no_type node.e.place)
