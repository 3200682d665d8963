-- Registers, as they are held (FIRRTL specification 3.0, "Registers").
use Rattle.std.specs.Prelude.{Bool, true, false, ◌&&◌, List, ℤ, Option, Some, None, if◌then◌else◌}
use Rattle.fir_tree.specs.declared.expr.Expr.{Expr}
use Rattle.fir_tree.specs.declared.stmt.Stmt.{Stmt}
use Rattle.fir_meaning.specs.Components.{Leaf, Sort, A_register, A_reset_register}
use Rattle.fir_meaning.specs.Values.{Scene, value, whole, is_one}
use Rattle.fir_meaning.specs.Drives.{drives, set_at, left_in}
use Rattle.fir_meaning.specs.WellTyped.{Known, is_condition, is_typed}
use Rattle.plain_values.specs.declared.register.Reset.{Reset}
use Rattle.plain_values.specs.declared.register.Register.{Register}

abbrev pub sort_by_reset : Expr → Option Reset → Sort
sort_by_reset clock None = A_register clock
sort_by_reset clock (Some reset) = A_reset_register clock reset.test.now reset.init.now

-- What the declaration of a register with this clock makes.
abbrev pub sort_of : Expr → Register → Sort
sort_of clock register = sort_by_reset clock register.reset

-- A reset is a UInt, and the value after it is well typed.
abbrev pub is_typed_reset : Known → Option Reset → Bool
is_typed_reset known None = true
is_typed_reset known (Some reset) = is_condition known reset.test.now && is_typed known reset.init.now

-- what is set in a register's leaf at the end of the cycle: `init` where its reset is 1, and else what the statements leave
abbrev pub set_next : Scene → Leaf → List Stmt → Option Reset → Option ℤ
set_next scene leaf block None = drives scene leaf block
set_next scene leaf block (Some reset) =
    if is_one (value reset.test.now scene)
    then left_in leaf None (set_at false (Some (whole scene leaf.component)) (value reset.init.now scene))
    else drives scene leaf block
