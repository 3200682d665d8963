-- The greatest of a count over all types and expressions that stand in the modules of a text (FIRRTL specification 3.0, "Circuits and
-- Modules", "Statements"). What an item stands for isn't written: its clock, its condition and its arguments are.
use Rattle.std.specs.Prelude.{ℕ, max, List, [], ◌∷◌, map}
use Rattle.fir_types.specs.declared.fir_type.FirType.{FirType}
use Rattle.fir_types.specs.declared.port.Port.{Port}
use Rattle.fir_types.specs.declared.memory.MemLine.{MemLine}
use Rattle.fir_types.specs.declared.memory.MemLine.TheVariants as line
use Rattle.fir_tree.specs.declared.expr.Expr.{Expr}
use Rattle.fir_tree.specs.declared.stmt.Stmt.{Stmt, fold-Stmt}
use Rattle.fir_tree.specs.declared.stmt.Stmt.TheOpen.{Stmt-F, Arm-F}
use Rattle.item_lines.specs.declared.line.Line.{Line, fold-Line}
use Rattle.item_lines.specs.declared.line.LineArm.{LineArm, fold-LineArm}
use Rattle.item_lines.specs.declared.line.LineModule.{LineModule}
use Rattle.item_lines.specs.declared.line.Line.TheOpen.{Line-F, LineArm-F}
use Rattle.depth_laws.specs.Blocks.{greatest}

module _ (of_type : FirType → ℕ) (of_expr : Expr → ℕ) where
  abbrev pub most_in_memory_line : MemLine → ℕ
  most_in_memory_line (line.Element at typ) = of_type typ
  most_in_memory_line _ = 0

  abbrev pub of_stmt : Stmt-F ℕ ℕ → ℕ
  of_stmt (Stmt-F.Wire name typ) = of_type typ
  of_stmt (Stmt-F.Reg name typ clock) = max (of_type typ) (of_expr clock)
  of_stmt (Stmt-F.RegReset name typ clock reset init) = greatest (of_type typ ∷ of_expr clock ∷ of_expr reset ∷ of_expr init ∷ [])
  of_stmt (Stmt-F.Mem memory) = greatest (map most_in_memory_line memory.lines)
  of_stmt (Stmt-F.Inst name of) = 0
  of_stmt (Stmt-F.Node name value) = of_expr value
  of_stmt (Stmt-F.Connect driven source) = max (of_expr driven) (of_expr source)
  of_stmt (Stmt-F.Invalidate driven) = of_expr driven
  of_stmt (Stmt-F.When arms other) = max (greatest arms) (greatest other)
  of_stmt (Stmt-F.Skip at) = 0

  abbrev pub of_arm : Arm-F ℕ ℕ → ℕ
  of_arm arm = max (of_expr arm.condition) (greatest arm.body)

  abbrev pub most_in_stmt : Stmt → ℕ
  most_in_stmt = fold-Stmt ℕ ℕ of_stmt of_arm

  abbrev pub of_line : Line-F ℕ ℕ → ℕ
  of_line (Line-F.Plain s) = most_in_stmt s
  of_line (Line-F.Branch arms other) = max (greatest arms) (greatest other)
  of_line (Line-F.Print at clock condition pieces arguments) = greatest (of_expr clock ∷ of_expr condition ∷ map of_expr arguments)
  of_line (Line-F.Stop at clock condition code) = max (of_expr clock) (of_expr condition)

  abbrev pub of_line_arm : LineArm-F ℕ ℕ → ℕ
  of_line_arm arm = max (of_expr arm.condition) (greatest arm.body)

  abbrev pub most_in_line : Line → ℕ
  most_in_line = fold-Line ℕ ℕ of_line of_line_arm

  abbrev pub most_in_arm : LineArm → ℕ
  most_in_arm = fold-LineArm ℕ ℕ of_line of_line_arm

  abbrev pub most_in_body : List Port → List Line → ℕ
  most_in_body ports body = max (greatest (map (λ port. of_type port.typ) ports)) (greatest (map most_in_line body))

  abbrev pub most_in_module : LineModule → ℕ
  most_in_module holder = most_in_body holder.ports holder.body

  abbrev pub most_in_text : List LineModule → ℕ
  most_in_text modules = greatest (map most_in_module modules)
