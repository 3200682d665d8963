-- How many blocks of a text's lines are around one another (FIRRTL specification 3.0, "Circuits and Modules", "Conditionals",
-- "Memories"). A block with nothing in it needs none: its text may leave it out. A memory always has one.
use Rattle.std.specs.Prelude.{ℕ, ◌+◌, max, List, [], ◌∷◌, map}
use Rattle.fir_types.specs.declared.port.Port.{Port}
use Rattle.fir_tree.specs.declared.stmt.Stmt.{Stmt, fold-Stmt}
use Rattle.fir_tree.specs.declared.stmt.Stmt.TheOpen.{Stmt-F, Arm-F}
use Rattle.item_lines.specs.declared.line.Line.{Line, fold-Line}
use Rattle.item_lines.specs.declared.line.LineArm.{LineArm, fold-LineArm}
use Rattle.item_lines.specs.declared.line.LineModule.{LineModule}
use Rattle.item_lines.specs.declared.line.Line.TheOpen.{Line-F, LineArm-F}

abbrev pub greatest : List ℕ → ℕ
greatest [] = 0
greatest (n ∷ ns) = max n (greatest ns)

-- a block whose parts have these
abbrev pub block_of : List ℕ → ℕ
block_of [] = 0
block_of (n ∷ ns) = greatest (n ∷ ns) + 1

abbrev pub of_stmt : Stmt-F ℕ ℕ → ℕ
of_stmt (Stmt-F.Mem memory) = 1
of_stmt (Stmt-F.When arms other) = max (greatest arms) (block_of other)
of_stmt _ = 0

abbrev pub of_arm : Arm-F ℕ ℕ → ℕ
of_arm arm = block_of arm.body

abbrev pub stmt_blocks : Stmt → ℕ
stmt_blocks = fold-Stmt ℕ ℕ of_stmt of_arm

-- lines: a `printf` and a `stop` have no block
abbrev pub of_line : Line-F ℕ ℕ → ℕ
of_line (Line-F.Plain s) = stmt_blocks s
of_line (Line-F.Branch arms other) = max (greatest arms) (block_of other)
of_line _ = 0

abbrev pub of_line_arm : LineArm-F ℕ ℕ → ℕ
of_line_arm arm = block_of arm.body

abbrev pub line_blocks : Line → ℕ
line_blocks = fold-Line ℕ ℕ of_line of_line_arm

abbrev pub arm_blocks : LineArm → ℕ
arm_blocks = fold-LineArm ℕ ℕ of_line of_line_arm

-- the body of a module, with its ports
abbrev pub body_blocks : List Port → List ℕ → ℕ
body_blocks [] depths = block_of depths
body_blocks (port ∷ ports) depths = greatest depths + 1

abbrev pub module_blocks : LineModule → ℕ
module_blocks holder = body_blocks holder.ports (map line_blocks holder.body)

-- all modules of a text
abbrev pub text_blocks : List LineModule → ℕ
text_blocks modules = block_of (map module_blocks modules)
