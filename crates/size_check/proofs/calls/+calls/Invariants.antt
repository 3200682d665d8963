use Rattle.std.proofs.Common.{◌≡◌, ◌++◌, take}
use Rattle.std.specs.List.{flat_map}
use Rattle.size_check.specs.Standings.{stmt_calls, arm_calls}
use Rattle.size_check.proofs.calls.+calls.Given as goal

abbrev pub invariant-push_calls-loop-statement : goal.invariant-push_calls-loop-statement
invariant-push_calls-loop-statement l = l.calls.items ≡ l.fn.calls.items ++ flat_map stmt_calls (take l.statement-index l.statements)

abbrev pub invariant-push_arm_calls-loop-arm : goal.invariant-push_arm_calls-loop-arm
invariant-push_arm_calls-loop-arm l = l.calls.items ≡ l.fn.calls.items ++ flat_map arm_calls (take l.arm-index l.arms)
