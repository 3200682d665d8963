use Rattle.std.proofs.Common.{arith}
use Rattle.std.proofs.lemmas.Grind.{common_steps}
use Rattle.drive_check.proofs.Blocks.{on_ok}
use Rattle.clock_check.proofs.Making.{arm_makes_is, when_makes_is}
use Rattle.clock_check.proofs.instances.+instances.Goals as goal

pub push_arms-loop-arm-preserved : goal.push_arms-loop-arm-preserved
push_arms-loop-arm-preserved t c = let e = arm_makes_is c.arm-item.result in grind (arith, common_steps, e)

pub push_statement-returns-in_ok-push_arms-in-When :
    goal.push_statement-returns-in_ok-push_arms-in-When
push_statement-returns-in_ok-push_arms-in-When t c =
    let e = when_makes_is c.args.statement.now c.in-When.arms c.in-When.other c.in-When.is in
    on_ok c.push_block.result (λ h. grind (arith, common_steps, e, h)) c.push_block.ensures
