use Rattle.std.proofs.Common.{arith}
use Rattle.std.proofs.lemmas.Grind.{common_steps}
use Rattle.drive_check.proofs.Blocks.{on_ok}
use Rattle.drive_check.proofs.Naming.{arm_names_is, when_names_are}
use Rattle.drive_check.proofs.names.+names.Goals as goal

pub push_arm_names-loop-arm-preserved : goal.push_arm_names-loop-arm-preserved
push_arm_names-loop-arm-preserved t c = let e = arm_names_is c.arm-item.result in grind (arith, common_steps, e)

pub push_declared-returns-in_ok-push_arm_names-in-When : goal.push_declared-returns-in_ok-push_arm_names-in-When
push_declared-returns-in_ok-push_arm_names-in-When t c =
    let e = when_names_are c.args.statement.now c.in-When.arms c.in-When.other c.in-When.is in
    on_ok c.push_names.result (λ h. grind (arith, common_steps, e, h)) c.push_names.ensures
