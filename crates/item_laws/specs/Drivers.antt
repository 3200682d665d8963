-- The statements that drive a component (FIRRTL specification 3.0, "Connects", "Invalidates"), and the conditions of the items of lines.
use Rattle.std.specs.Prelude.{ℕ, ◌==◌, Bool, false, List, [], ◌∷◌, ◌++◌, map, Option, Some, None, if◌then◌else◌}
use Rattle.fir_tree.specs.declared.expr.Expr.{Expr}
use Rattle.fir_tree.specs.declared.expr.Form.{Form}
use Rattle.fir_tree.specs.declared.expr.Suffix.{Suffix}
use Rattle.fir_tree.specs.declared.expr.Form.TheOpen.{Form-F}
use Rattle.fir_tree.specs.declared.expr.Form.TheViews.{out-Form}
use Rattle.fir_tree.specs.declared.stmt.Stmt.{Stmt, fold-Stmt}
use Rattle.fir_tree.specs.declared.stmt.Stmt.TheOpen.{Stmt-F, Arm-F}
use Rattle.item_lines.specs.declared.line.Line.{Line, fold-Line}
use Rattle.item_lines.specs.declared.line.Line.TheOpen.{Line-F, LineArm-F}

-- one after the other
abbrev pub all_of : {A : Type 0} → List (List A) → List A
all_of [] = []
all_of (first ∷ others) = first ++ all_of others

abbrev pub is_form_of : ℕ → Form-F Form Suffix Expr → Bool
is_form_of component (Form-F.Ref name suffixes) = name.id == component
is_form_of component _ = false

-- the expression is a reference to the component, or to a part of it
abbrev pub refers_to : ℕ → Expr → Bool
refers_to component e = is_form_of component (out-Form e.form)

module _ (component : ℕ) where
  abbrev pub of_stmt : Stmt-F (List (Option Expr)) (List (Option Expr)) → List (Option Expr)
  of_stmt (Stmt-F.Connect left right) = if refers_to component left then Some right ∷ [] else []
  of_stmt (Stmt-F.Invalidate target) = if refers_to component target then None ∷ [] else []
  of_stmt (Stmt-F.When arms other) = all_of arms ++ all_of other
  of_stmt _ = []

  abbrev pub of_arm : Arm-F (List (Option Expr)) (List (Option Expr)) → List (Option Expr)
  of_arm arm = all_of arm.body

  abbrev pub drivers_in : Stmt → List (Option Expr)
  drivers_in = fold-Stmt (List (Option Expr)) (List (Option Expr)) of_stmt of_arm

  -- In text order the sources of the connects of the component, and none for each `invalidate` of it.
  abbrev pub drivers : List Stmt → List (Option Expr)
  drivers stmts = all_of (map drivers_in stmts)

abbrev pub of_line : Line-F (List Expr) (List Expr) → List Expr
of_line (Line-F.Plain s) = []
of_line (Line-F.Branch arms other) = all_of arms ++ all_of other
of_line (Line-F.Print at clock condition pieces arguments) = condition ∷ []
of_line (Line-F.Stop at clock condition code) = condition ∷ []

abbrev pub of_line_arm : LineArm-F (List Expr) (List Expr) → List Expr
of_line_arm arm = all_of arm.body

abbrev pub conditions_in : Line → List Expr
conditions_in = fold-Line (List Expr) (List Expr) of_line of_line_arm

-- The conditions of the items of lines, in text order.
abbrev pub conditions : List Line → List Expr
conditions lines = all_of (map conditions_in lines)
