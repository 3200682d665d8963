-- Choices by one bit (FIRRTL specification 3.0, "Multiplexers"): the first operand of each `mux` that stands in an expression is one
-- UInt of at most one bit.
use Rattle.std.specs.Prelude.{◌&&◌, Bool, true, List, [], ◌∷◌, map}
use Rattle.std.specs.List.{list_all}
use Rattle.fir_tree.specs.declared.expr.Expr.{Expr, fold-Expr}
use Rattle.fir_tree.specs.declared.expr.Form.TheOpen.{Form-F, Suffix-F, Expr-F}
use Rattle.fir_tree.specs.declared.expr.Form.TheFolds.{map-Form, map-Suffix}
use Rattle.fir_tree.specs.declared.stmt.Stmt.{Stmt, fold-Stmt}
use Rattle.fir_tree.specs.declared.stmt.Stmt.TheOpen.{Stmt-F, Arm-F}
use Rattle.fir_meaning.specs.WellTyped as typing
use Rattle.fir_meaning.specs.WellTyped.{Known, InKnown, Onward}
use Rattle.fitted_laws.specs.OneBit.{one_bit}

-- an expression with its kinds and widths, and whether its choices are so
pub record Chosen : Type 0 where
  pub shapes : InKnown
  pub small : Known → Bool

-- a step of a reference with the type behind it, and whether the choices in its index are so
pub record ChosenStep : Type 0 where
  pub onward : Onward
  pub small : Known → Bool

abbrev pub first_is_one_bit : Known → List Chosen → Bool
first_is_one_bit known [] = true
first_is_one_bit known (condition ∷ others) = one_bit (condition.shapes known)

abbrev pub small_form : Known → Form-F Chosen ChosenStep Chosen → Bool
small_form known (Form-F.Ref name steps) = list_all (λ step. step.small known) steps
small_form known (Form-F.Literal kind width number) = true
small_form known (Form-F.Prim prim operands params) = list_all (λ operand. operand.small known) operands
small_form known (Form-F.Mux operands) = first_is_one_bit known operands && list_all (λ operand. operand.small known) operands

abbrev pub of_form : Form-F Chosen ChosenStep Chosen → Chosen
of_form form = record {
  shapes = typing.of_form (map-Form Chosen ChosenStep Chosen InKnown Onward InKnown (λ c. c.shapes) (λ s. s.onward) (λ c. c.shapes) form);
  small = λ known. small_form known form;
}

abbrev pub small_step : Known → Suffix-F Chosen ChosenStep Chosen → Bool
small_step known (Suffix-F.Field name) = true
small_step known (Suffix-F.At bracket place n) = true
small_step known (Suffix-F.Index bracket index) = index.small known

abbrev pub of_suffix : Suffix-F Chosen ChosenStep Chosen → ChosenStep
of_suffix step = record {
  onward = typing.of_suffix (map-Suffix Chosen ChosenStep Chosen InKnown Onward InKnown (λ c. c.shapes) (λ s. s.onward) (λ c. c.shapes) step);
  small = λ known. small_step known step;
}

abbrev pub of_expr : Expr-F Chosen ChosenStep Chosen → Chosen
of_expr e = e.form

abbrev pub chosen : Expr → Chosen
chosen = fold-Expr Chosen ChosenStep Chosen of_form of_suffix of_expr

-- the choices of an expression are by one bit
abbrev pub chooses : Known → Expr → Bool
chooses known e = (chosen e).small known

module _ (known : Known) where
  abbrev pub of_stmt : Stmt-F Bool Bool → Bool
  of_stmt (Stmt-F.Reg name typ clock) = chooses known clock
  of_stmt (Stmt-F.RegReset name typ clock reset init) = chooses known clock && (chooses known reset && chooses known init)
  of_stmt (Stmt-F.Node name e) = chooses known e
  of_stmt (Stmt-F.Connect left right) = chooses known left && chooses known right
  of_stmt (Stmt-F.Invalidate target) = chooses known target
  of_stmt (Stmt-F.When arms other) = list_all (λ arm. arm) arms && list_all (λ s. s) other
  of_stmt _ = true

  abbrev pub of_arm : Arm-F Bool Bool → Bool
  of_arm arm = chooses known arm.condition && list_all (λ s. s) arm.body

  abbrev pub chooses_in : Stmt → Bool
  chooses_in = fold-Stmt Bool Bool of_stmt of_arm

  -- So are those of all expressions of a block, and of the blocks within.
  abbrev pub choose_in : List Stmt → Bool
  choose_in body = list_all (λ b. b) (map chooses_in body)
