-- Conditions of a block, and what stands as one UInt (FIRRTL specification 3.0, "Conditionals", "References", "Multiplexers", "Registers").
use Rattle.std.specs.Prelude.{◌≡◌, ℕ, List, [], ◌∷◌, Contains, Some}
use Rattle.bit_words.specs.declared.value.Kind.TheVariants.{Unsigned}
use Rattle.fir_tree.specs.declared.expr.Expr.{Expr}
use Rattle.fir_tree.specs.declared.stmt.Stmt.{Stmt}
use Rattle.fir_tree.specs.declared.stmt.Stmt.TheVariants as stmt
use Rattle.fir_tree.specs.declared.stmt.Stmt.TheViews.{out-Stmt}
use Rattle.fir_tree.specs.declared.stmt.Arm.{Arm}
use Rattle.prim_ops.specs.Shapes.{shaped}
use Rattle.fir_meaning.specs.WellTyped.{Known, typed}
use Rattle.check_laws.specs.Faults.{StandsIn}
use Rattle.check_laws.specs.CircuitNodes.{expressions_in}

-- a block within a block: it itself, or one in an arm or the `else` of one of its conditionals
pub data BlockIn (inner : List Stmt) : List Stmt → Type 0 where
  itself : BlockIn inner inner
  in_an_arm : {block : List Stmt} (arms : List Arm) (other : List Stmt) (arm : Arm) → Contains block (stmt.When arms other) → Contains arms arm
      → BlockIn inner arm.body → BlockIn inner block
  otherwise : {block : List Stmt} (arms : List Arm) (other : List Stmt) → Contains block (stmt.When arms other) → BlockIn inner other → BlockIn inner block

-- the condition of an arm of a conditional that stands in a block or in one within
pub data IsConditionIn (e : Expr) (block : List Stmt) : Type 0 where
  of_an_arm : (inner : List Stmt) (arms : List Arm) (other : List Stmt) (arm : Arm) → BlockIn inner block → Contains inner (stmt.When arms other)
      → Contains arms arm → arm.condition ≡ e → IsConditionIn e block

-- an expression of a statement there, or such a condition, or an expression that stands in one of these
pub data StandsInBlock (e : Expr) (block : List Stmt) : Type 0 where
  in_a_condition : (outer : Expr) → IsConditionIn outer block → StandsIn e outer → StandsInBlock e block
  in_a_statement : (inner : List Stmt) (s : Stmt) (outer : Expr) → BlockIn inner block → Contains inner s → Contains (expressions_in (out-Stmt s)) outer
      → StandsIn e outer → StandsInBlock e block

-- The expression is one UInt. The value of an AsyncReset is one of one bit.
pub record IsOneUInt (known : Known) (e : Expr) : Type 0 where
  pub width : ℕ
  pub is : typed e known ≡ Some (shaped Unsigned width ∷ [])
