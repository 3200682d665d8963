-- Trees that a text spells: an operation has as many operands and parameters as it takes, and a `mux` three operands
-- (FIRRTL specification 3.0, "Primitive Operations" and "Multiplexers").
use Rattle.std.specs.Prelude.{nat_eq, Bool, true, ◌&&◌, List, length}
use Rattle.std.specs.List.{list_all}
use Rattle.prim_ops.specs.Operations.{arity_of}
use Rattle.fir_tree.specs.declared.circuit.Circuit.{Circuit}
use Rattle.fir_tree.specs.declared.circuit.Module.{Module}
use Rattle.fir_tree.specs.declared.expr.Expr.{Expr, fold-Expr}
use Rattle.fir_tree.specs.declared.expr.Form.TheOpen.{Form-F, Suffix-F, Expr-F}
use Rattle.fir_tree.specs.declared.stmt.Stmt.{Stmt, fold-Stmt}
use Rattle.fir_tree.specs.declared.stmt.Stmt.TheOpen.{Stmt-F, Arm-F}

abbrev pub all_are : List Bool → Bool
all_are = list_all (λ b. b)

abbrev pub of_form : Form-F Bool Bool Bool → Bool
of_form (Form-F.Ref name suffixes) = all_are suffixes
of_form (Form-F.Literal kind width number) = true
of_form (Form-F.Prim prim operands params) = all_are operands && (nat_eq (length operands) (arity_of prim).0 && nat_eq (length params) (arity_of prim).1)
of_form (Form-F.Mux operands) = all_are operands && nat_eq (length operands) 3

abbrev pub of_suffix : Suffix-F Bool Bool Bool → Bool
of_suffix (Suffix-F.Field name) = true
of_suffix (Suffix-F.At bracket place n) = true
of_suffix (Suffix-F.Index bracket index) = index

abbrev pub of_expr : Expr-F Bool Bool Bool → Bool
of_expr e = e.form

abbrev pub is_shaped : Expr → Bool
is_shaped = fold-Expr Bool Bool Bool of_form of_suffix of_expr

abbrev pub of_stmt : Stmt-F Bool Bool → Bool
of_stmt (Stmt-F.Wire name typ) = true
of_stmt (Stmt-F.Reg name typ clock) = is_shaped clock
of_stmt (Stmt-F.RegReset name typ clock reset init) = is_shaped clock && (is_shaped reset && is_shaped init)
of_stmt (Stmt-F.Mem memory) = true
of_stmt (Stmt-F.Inst name target) = true
of_stmt (Stmt-F.Node name e) = is_shaped e
of_stmt (Stmt-F.Connect left right) = is_shaped left && is_shaped right
of_stmt (Stmt-F.Invalidate target) = is_shaped target
of_stmt (Stmt-F.When arms other) = all_are arms && all_are other
of_stmt (Stmt-F.Skip place) = true

abbrev pub of_arm : Arm-F Bool Bool → Bool
of_arm arm = is_shaped arm.condition && all_are arm.body

abbrev pub is_shaped_stmt : Stmt → Bool
is_shaped_stmt = fold-Stmt Bool Bool of_stmt of_arm

abbrev pub is_shaped_module : Module → Bool
is_shaped_module m = list_all is_shaped_stmt m.body

-- All operations of a circuit are so.
abbrev pub is_shaped_circuit : Circuit → Bool
is_shaped_circuit circuit = list_all is_shaped_module circuit.modules
