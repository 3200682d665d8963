use Rattle.std.proofs.Common.{arith}
use Rattle.std.proofs.lemmas.Grind.{common_steps}
use Rattle.lower_aggregates.proofs.Listing.{on_ok, arm_headings_are, when_headings_are}
use Rattle.lower_aggregates.proofs.declarations.+walk.Goals as goal

pub push_arms-loop-arm-preserved : goal.push_arms-loop-arm-preserved
push_arms-loop-arm-preserved t c = let e = arm_headings_are c.arm-item.result in grind (arith, common_steps, e)

pub push_statement-returns-in_ok-push_arms-in-When : goal.push_statement-returns-in_ok-push_arms-in-When
push_statement-returns-in_ok-push_arms-in-When t c =
    let e = when_headings_are c.args.statement.now c.in-When.arms c.in-When.other c.in-When.is in
    on_ok c.push_statements.result (λ h. grind (arith, common_steps, e, h)) c.push_statements.ensures
