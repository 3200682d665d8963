use Rattle.std.proofs.Common.{◌≡◌, ◌++◌, take}
use Rattle.std.specs.List.{flat_map}
use Rattle.clock_check.specs.Makes.{makes_of, stmt_makes, arm_makes}
use Rattle.clock_check.proofs.instances.+instances.Given as goal

abbrev pub invariant-push_block-loop-statement : goal.invariant-push_block-loop-statement
invariant-push_block-loop-statement l = makes_of l.instances.items ≡ makes_of l.fn.instances.items ++ flat_map stmt_makes (take l.statement-index l.statements)

abbrev pub invariant-push_arms-loop-arm : goal.invariant-push_arms-loop-arm
invariant-push_arms-loop-arm l = makes_of l.instances.items ≡ makes_of l.fn.instances.items ++ flat_map arm_makes (take l.arm-index l.arms)
