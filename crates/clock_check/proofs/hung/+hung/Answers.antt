use Rattle.std.proofs.Common.{arith}
use Rattle.std.proofs.lemmas.Grind.{common_steps}
use Rattle.drive_check.specs.HeldTypes.{types_in}
use Rattle.drive_check.proofs.Blocks.{on_ok}
use Rattle.clock_check.proofs.Hanging.{arm_hung_is, when_hung_is}
use Rattle.clock_check.proofs.hung.+hung.Goals as goal

pub push_arms-loop-arm-preserved : goal.push_arms-loop-arm-preserved
push_arms-loop-arm-preserved t c = let e = arm_hung_is (types_in c.args.types.now) c.arm-item.result in grind (arith, common_steps, e)

pub push_statement-returns-in_ok-push_arms-in-When :
    goal.push_statement-returns-in_ok-push_arms-in-When
push_statement-returns-in_ok-push_arms-in-When t c =
    let e = when_hung_is (types_in c.args.types.now) c.args.statement.now c.in-When.arms c.in-When.other c.in-When.is in
    on_ok c.push_block.result (λ h. grind (arith, common_steps, e, h)) c.push_block.ensures
