-- The arms of a `when`, and the declarations of a body, as ground statements.
use Rattle.std.specs.Prelude.{◌≡◌, ℕ, ⊤, ◌+◌, nat_eq, Bool, true, List, [], ◌∷◌, map, length, Option, Some, None}
use Rattle.std.specs.List.{list_all}
use Rattle.std.specs.Map.{lookup}
use Rattle.fir_types.specs.Leaves.{leaves}
use Rattle.fir_tree.specs.declared.circuit.Module.{Module}
use Rattle.fir_tree.specs.declared.expr.Expr.{Expr}
use Rattle.fir_tree.specs.declared.stmt.Arm.{Arm, fold-Arm}
use Rattle.fir_meaning.specs.Components.{TypedModule}
use Rattle.fir_meaning.specs.WellTyped as kinds
use Rattle.fir_meaning.specs.WellTyped.{Known, HasTypes, typed, is_one_unsigned}
use Rattle.ground_net.specs.declared.ground.Ground.{Ground}
use Rattle.ground_net.specs.declared.circuit.GroundArm.{GroundArm}
use Rattle.ground_net.specs.declared.circuit.GroundStmt.{GroundStmt}
use Rattle.ground_net.specs.Shapes.{Table}
use Rattle.net_of_circuit.specs.Numbers.{leaves_before}
use Rattle.ground_exprs.specs.declared.source.Source.{Source}
use Rattle.ground_exprs.specs.declared.component.Component.{Component}
use Rattle.ground_exprs.specs.Sources.{Entries, IsLowered, known_of}
use Rattle.ground_statements.specs.Connects.{IsNode}
use Rattle.ground_statements.specs.Declares.{Label, all_labels, body_labels, Declares}
use Rattle.ground_statements.specs.Bodies.{IsViewOf, HasTable, BodyDoes}

-- how many leaves a component has
abbrev pub leaves_of_component : Option Component → ℕ
leaves_of_component None = 0
leaves_of_component (Some e) = length (leaves e.typ)

-- How many leaves the component of a name has, where there is one.
abbrev pub leaves_under : Entries → ℕ → ℕ
leaves_under entries name = leaves_of_component (lookup (nat_eq name) entries)

-- the statements of a node, where there is one
abbrev pub IsNodeWhere : Option Component → List Source → List GroundStmt → Type 0
IsNodeWhere None sources made = made ≡ []
IsNodeWhere (Some e) sources made = IsNode e.typ e.first sources made

-- The statements of the node of a name.
abbrev pub IsNodeOf : Entries → ℕ → List Source → List GroundStmt → Type 0
IsNodeOf entries name sources made = IsNodeWhere (lookup (nat_eq name) entries) sources made

-- the arm is well typed
abbrev pub is_typed_arm : Known → Arm → Bool
is_typed_arm known = fold-Arm Bool Bool (kinds.of_stmt known) (kinds.of_arm known)

-- all arms are
abbrev pub are_typed_arms : Known → List Arm → Bool
are_typed_arms known arms = list_all (λ b. b) (map (is_typed_arm known) arms)

-- what is declared in arms
abbrev pub arms_labels : List Arm → List Label
arms_labels arms = all_labels (map (λ a. body_labels a.body) arms)

-- The ground condition is that of an arm: a UInt.
pub record IsCondition (entries : Entries) (e : Expr) (g : Ground) : Type 0 where
  pub source : Source
  pub expr : source.expr ≡ g
  pub unsigned : is_one_unsigned (typed e (known_of entries)) ≡ true
  pub lowered : IsLowered entries e (source ∷ [])

-- Arms that do what those of the text do, where so many declarations stand before them.
abbrev pub ArmsDo : Entries → TypedModule → Table → ℕ → List Arm → List GroundArm → Type 0
ArmsDo entries m table n [] [] = ⊤
ArmsDo entries m table n (a ∷ arms) (g ∷ made) =
    (IsCondition entries a.condition g.condition × BodyDoes m table n a.body g.body) × ArmsDo entries m table (n + length (body_labels a.body)) arms made
ArmsDo entries m table n _ _ = ⊥

-- These are the arms of a `when` before which so many leaves are declared, and before whose `else` so many, whatever module it stands in.
pub record AreArms (entries : Entries) (settable : List Bool) (arms : List Arm) (before behind : ℕ) (made : List GroundArm) : Type 0 where
  pub behind_them : (m : TypedModule) (n : ℕ) → IsViewOf m entries settable → Declares m n (arms_labels arms) → before ≡ leaves_before m n
      → behind ≡ leaves_before m (n + length (arms_labels arms))
  pub does : (holder : Module) (m : TypedModule) (table : Table) (n : ℕ) → HasTypes holder m → IsViewOf m entries settable → HasTable m table
      → Declares m n (arms_labels arms) → before ≡ leaves_before m n → ArmsDo entries m table n arms made
