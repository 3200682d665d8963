use Rattle.std.proofs.Common.{arith}
use Rattle.std.proofs.lemmas.Grind.{common_steps}
use Rattle.size_check.proofs.Calling.{on_ok, arm_calls_are, when_calls_are}
use Rattle.size_check.proofs.calls.+calls.Goals as goal

pub push_arm_calls-loop-arm-preserved : goal.push_arm_calls-loop-arm-preserved
push_arm_calls-loop-arm-preserved t c = let e = arm_calls_are c.arm-item.result in grind (arith, common_steps, e)

pub push_call-returns-in_ok-push_arm_calls-in-When : goal.push_call-returns-in_ok-push_arm_calls-in-When
push_call-returns-in_ok-push_arm_calls-in-When t c =
    let e = when_calls_are c.args.statement.now c.in-When.arms c.in-When.other c.in-When.is in
    on_ok c.push_calls.result (λ h. grind (arith, common_steps, e, h)) c.push_calls.ensures
