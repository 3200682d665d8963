-- What an arm of a `when` stands for.
use Rattle.std.specs.Prelude.{List}
use Rattle.fir_tree.specs.declared.stmt.Stmt.{Stmt}
use Rattle.fir_tree.specs.declared.stmt.Arm.{Arm}
use Rattle.item_lines.specs.declared.line.LineArm.{LineArm, fold-LineArm}
use Rattle.item_lines.specs.Items.{Stands, of_line, of_arm}

abbrev pub arm_of : LineArm → Stands Arm
arm_of = fold-LineArm (Stands (List Stmt)) (Stands Arm) of_line of_arm
