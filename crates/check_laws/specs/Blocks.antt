-- The memories that a block of statements declares (FIRRTL specification 3.0, "Statements", "Conditionals", "Memories").
use Rattle.std.specs.Prelude.{List, Contains}
use Rattle.fir_types.specs.declared.memory.Memory.{Memory}
use Rattle.fir_tree.specs.declared.stmt.Stmt.{Stmt}
use Rattle.fir_tree.specs.declared.stmt.Stmt.TheVariants as stmt
use Rattle.fir_tree.specs.declared.stmt.Arm.{Arm}

-- one of its statements does, or the block of an arm or of the `else` of one of its conditionals
pub data Declares (memory : Memory) : List Stmt → Type 0 where
  directly : {block : List Stmt} → Contains block (stmt.Mem memory) → Declares memory block
  in_an_arm : {block : List Stmt} (arms : List Arm) (other : List Stmt) (arm : Arm) → Contains block (stmt.When arms other) → Contains arms arm
      → Declares memory arm.body → Declares memory block
  otherwise : {block : List Stmt} (arms : List Arm) (other : List Stmt) → Contains block (stmt.When arms other) → Declares memory other → Declares memory block
