-- What an AsyncReset leaf of a circuit may come from.
use Rattle.std.specs.Prelude.{Bool, true, false, ◌||◌, List}
use Rattle.std.specs.List.{list_any}
use Rattle.fir_types.specs.declared.fir_type.FirType.{FirType, fold-FirType}
use Rattle.fir_types.specs.declared.fir_type.Shape.TheOpen.{Shape-F, Field-F}
use Rattle.fir_types.specs.declared.fir_type.Field.{Field, fold-Field}
use Rattle.fir_types.specs.declared.port.Port.{Port}
use Rattle.fir_types.specs.Memories.{element_of}
use Rattle.fir_tree.specs.declared.circuit.Circuit.{Circuit}
use Rattle.fir_tree.specs.declared.circuit.Module.{Module}
use Rattle.fir_tree.specs.declared.expr.Expr.{Expr, fold-Expr}
use Rattle.fir_tree.specs.declared.expr.Form.TheOpen.{Form-F, Suffix-F, Expr-F}
use Rattle.fir_tree.specs.declared.stmt.Stmt.{Stmt, fold-Stmt}
use Rattle.fir_tree.specs.declared.stmt.Arm.{Arm, fold-Arm}
use Rattle.fir_tree.specs.declared.stmt.Stmt.TheOpen.{Stmt-F, Arm-F}
use Rattle.reset_search.specs.Feeds.{is_cast}

abbrev pub any_of : List Bool → Bool
any_of = list_any (λ b. b)

-- whether an AsyncReset stands in the text of a type
abbrev pub of_shape : Shape-F Bool Bool Bool → Bool
of_shape (Shape-F.Unsigned width) = false
of_shape (Shape-F.Signed width) = false
of_shape Shape-F.Clock = false
of_shape Shape-F.Reset = false
of_shape Shape-F.AsyncReset = true
of_shape (Shape-F.Bundle fields) = any_of fields
of_shape (Shape-F.Vector element n) = element

abbrev pub holds_async : FirType → Bool
holds_async = fold-FirType Bool Bool Bool of_shape (λ f. f.typ) (λ t. t.shape)

abbrev pub field_holds_async : Field → Bool
field_holds_async = fold-Field Bool Bool Bool of_shape (λ f. f.typ) (λ t. t.shape)

-- whether an expression is an `asAsyncReset`, or a choice with one
abbrev pub of_form : Form-F Bool Bool Bool → Bool
of_form (Form-F.Ref name suffixes) = false
of_form (Form-F.Literal kind width number) = false
of_form (Form-F.Prim op operands params) = is_cast op
of_form (Form-F.Mux operands) = any_of operands

abbrev pub is_a_cast : Expr → Bool
is_a_cast = fold-Expr Bool Bool Bool of_form (λ s. false) (λ e. e.form)

-- Whether a statement may be what an AsyncReset comes from: it declares one, or its source is an `asAsyncReset`.
abbrev pub of_stmt : Stmt-F Bool Bool → Bool
of_stmt (Stmt-F.Wire name typ) = holds_async typ
of_stmt (Stmt-F.Reg name typ clock) = holds_async typ
of_stmt (Stmt-F.RegReset name typ clock reset init) = holds_async typ
of_stmt (Stmt-F.Mem memory) = holds_async (element_of memory)
of_stmt (Stmt-F.Inst name target) = false
of_stmt (Stmt-F.Node name e) = is_a_cast e
of_stmt (Stmt-F.Connect left right) = is_a_cast left || is_a_cast right
of_stmt (Stmt-F.Invalidate target) = false
of_stmt (Stmt-F.When arms other) = any_of arms || any_of other
of_stmt (Stmt-F.Skip place) = false

abbrev pub of_arm : Arm-F Bool Bool → Bool
of_arm arm = any_of arm.body

abbrev pub stmt_source : Stmt → Bool
stmt_source = fold-Stmt Bool Bool of_stmt of_arm

abbrev pub arm_source : Arm → Bool
arm_source = fold-Arm Bool Bool of_stmt of_arm

abbrev pub port_source : Port → Bool
port_source port = holds_async port.typ

abbrev pub module_source : Module → Bool
module_source m = list_any port_source m.ports || list_any stmt_source m.body

-- whether a module of the circuit has such a statement, or a port with an AsyncReset
abbrev pub has_source : Circuit → Bool
has_source circuit = list_any module_source circuit.modules
