use Rattle.std.proofs.Common.{◌≡◌, ◌++◌, take}
use Rattle.std.specs.List.{flat_map}
use Rattle.drive_check.specs.Sites.{stmt_names, arm_names}
use Rattle.drive_check.proofs.names.+names.Given as goal

abbrev pub invariant-push_names-loop-statement : goal.invariant-push_names-loop-statement
invariant-push_names-loop-statement l = l.names.items ≡ l.fn.names.items ++ flat_map stmt_names (take l.statement-index l.statements)

abbrev pub invariant-push_arm_names-loop-arm : goal.invariant-push_arm_names-loop-arm
invariant-push_arm_names-loop-arm l = l.names.items ≡ l.fn.names.items ++ flat_map arm_names (take l.arm-index l.arms)
