use Rattle.line_stmts.proofs.Making.{makes_more_arms, makes_arm, makes_more_lines}
use Rattle.line_stmts.proofs.walk.+walk.Goals as goal

pub arms_of-loop-arm-preserved : goal.arms_of-loop-arm-preserved
arms_of-loop-arm-preserved t c = rw c.in_ok-push.ensures.ok
    (makes_more_arms c.loop-arm.yielded c.in-Some.arm c.loop-arm.invariant (makes_arm c.in-Some.arm.condition c.in-Some.arm.body c.in_ok-body.ensures))

pub statements_of-loop-line-preserved : goal.statements_of-loop-line-preserved
statements_of-loop-line-preserved t c = rw c.in_ok-append.ensures (makes_more_lines c.loop-line.yielded c.in-Some.line c.loop-line.invariant c.in_ok-statements.ensures)
