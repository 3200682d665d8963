use Rattle.std.proofs.Common.{◌≡◌, ◌++◌, take}
use Rattle.std.specs.List.{flat_map}
use Rattle.drive_check.specs.HeldTypes.{types_in}
use Rattle.clock_check.specs.Hung.{hung_of, stmt_hung, arm_hung}
use Rattle.clock_check.proofs.hung.+hung.Given as goal

abbrev pub invariant-push_block-loop-statement : goal.invariant-push_block-loop-statement
invariant-push_block-loop-statement l = hung_of l.hung.items ≡ hung_of l.fn.hung.items ++ flat_map (stmt_hung (types_in l.types)) (take l.statement-index l.statements)

abbrev pub invariant-push_arms-loop-arm : goal.invariant-push_arms-loop-arm
invariant-push_arms-loop-arm l = hung_of l.hung.items ≡ hung_of l.fn.hung.items ++ flat_map (arm_hung (types_in l.types)) (take l.arm-index l.arms)
