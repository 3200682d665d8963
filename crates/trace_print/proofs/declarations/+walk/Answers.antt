use Rattle.std.proofs.Common.{arith}
use Rattle.std.proofs.lemmas.Grind.{common_steps}
use Rattle.trace_print.proofs.Declared.{declared-when, arms_more}
use Rattle.trace_print.proofs.declarations.+walk.Goals as goal

pub push_statement-loop-arm-preserved : goal.push_statement-loop-arm-preserved
push_statement-loop-arm-preserved t c =
    arms_more c.as_slice-arm-items.result.now c.loop-arm.arm-index c.arm-item.result c.args.holder c.args.reached c.args.all.now.items c.loop-arm.all.items c.push_statements.new.all.items
    c.loop-arm-test.true c.arm-item.is c.loop-arm.invariant (rw c.as_slice.ensures at c.in_ok-push_statements-in-When.ensures)

pub push_statement-returns-after-loop-arm : goal.push_statement-returns-after-loop-arm
push_statement-returns-after-loop-arm t c =
    let e = declared-when c.args.statement.now c.in-When.arms c.in-When.other c.args.holder c.args.reached c.in-When.is in
    grind (arith, common_steps, e)
