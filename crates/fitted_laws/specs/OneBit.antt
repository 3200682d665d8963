-- Conditions of one bit (FIRRTL specification 3.0, "Conditionals" and "Registers"): each condition of a conditional and each reset of a
-- register is one UInt of at most one bit. So is the value of a reset that is an AsyncReset.
use Rattle.std.specs.Prelude.{◌&&◌, nat_le, Bool, true, false, List, [], ◌∷◌, map, Option, Some}
use Rattle.std.specs.List.{list_all}
use Rattle.fir_tree.specs.declared.expr.Expr.{Expr}
use Rattle.fir_tree.specs.declared.stmt.Stmt.{Stmt, fold-Stmt}
use Rattle.fir_tree.specs.declared.stmt.Stmt.TheOpen.{Stmt-F, Arm-F}
use Rattle.prim_ops.specs.Shapes.{Shape, is_unsigned}
use Rattle.fir_meaning.specs.WellTyped.{Known, typed}

abbrev pub one_bit : Option (List Shape) → Bool
one_bit (Some (s ∷ [])) = is_unsigned s && nat_le s.width 1
one_bit _ = false

-- the expression is one UInt of at most one bit
abbrev pub is_one_bit : Known → Expr → Bool
is_one_bit known e = one_bit (typed e known)

module _ (known : Known) where
  abbrev pub of_stmt : Stmt-F Bool Bool → Bool
  of_stmt (Stmt-F.RegReset name typ clock reset init) = is_one_bit known reset
  of_stmt (Stmt-F.When arms other) = list_all (λ arm. arm) arms && list_all (λ s. s) other
  of_stmt _ = true

  abbrev pub of_arm : Arm-F Bool Bool → Bool
  of_arm arm = is_one_bit known arm.condition && list_all (λ s. s) arm.body

  abbrev pub asks_one_bit : Stmt → Bool
  asks_one_bit = fold-Stmt Bool Bool of_stmt of_arm

  -- So are all conditions and resets of a block, and of the blocks within.
  abbrev pub ask_one_bit : List Stmt → Bool
  ask_one_bit body = list_all (λ b. b) (map asks_one_bit body)
