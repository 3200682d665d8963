use Rattle.std.proofs.Common.{rules}
use Rattle.std.proofs.lemmas.Result.{on_ok_weaker}
use Rattle.type_check.specs.Statements.{stmt_walk, arm_walk}
use Rattle.type_check.proofs.Walking.{walks_among, walks_arm, walks_when}
use Rattle.type_check.proofs.walk.+walk.Goals as goal

pub walk_arms-loop-arm-preserved : goal.walk_arms-loop-arm-preserved
walk_arms-loop-arm-preserved t c = walks_among arm_walk c.args.arms.now c.loop-arm.arm-index c.arm-item.result (search rules) (search rules) c.loop-arm.invariant c.in_ok-walk_arm.ensures

pub walk_statements-loop-statement-preserved : goal.walk_statements-loop-statement-preserved
walk_statements-loop-statement-preserved t c = walks_among stmt_walk c.args.statements.now c.loop-statement.statement-index c.statement-item.result (search rules) (search rules) c.loop-statement.invariant c.in_ok-walk_statement.ensures

pub walk_arm-returns : goal.walk_arm-returns
walk_arm-returns t c =
    on_ok_weaker c.walk_statements.result (λ h. walks_arm c.args.arm.now c.in_ok-expect_condition.ensures h) (rw c.as_slice.ensures at c.walk_statements.ensures)

pub walk_statement-returns-in_ok-walk_arms-in-When : goal.walk_statement-returns-in_ok-walk_arms-in-When
walk_statement-returns-in_ok-walk_arms-in-When t c =
    on_ok_weaker c.walk_statements.result
    (λ h. walks_when c.args.statement.now c.in-When.arms c.in-When.other c.in-When.is (rw c.as_slice.ensures at c.in_ok-walk_arms-in-When.ensures) h)
    (rw c.as_slice-in-When.ensures at c.walk_statements.ensures)
