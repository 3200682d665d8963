use Rattle.std.proofs.Common.{arith}
use Rattle.std.proofs.lemmas.Grind.{common_steps}
use Rattle.reset_search.proofs.Holding.{source-when, source-arm}
use Rattle.reset_search.proofs.sources.+source.Goals as goal

pub stmt_source-returns-then-any_arm_source : goal.stmt_source-returns-then-any_arm_source
stmt_source-returns-then-any_arm_source t c =
    let e = source-when c.args.statement.now c.in-When.arms c.in-When.other c.in-When.is in
    grind (arith, common_steps, e)

pub stmt_source-returns-else-any_arm_source : goal.stmt_source-returns-else-any_arm_source
stmt_source-returns-else-any_arm_source t c =
    let e = source-when c.args.statement.now c.in-When.arms c.in-When.other c.in-When.is in
    grind (arith, common_steps, e)

pub any_arm_source-returns-then-any_source : goal.any_arm_source-returns-then-any_source
any_arm_source-returns-then-any_source t c = grind (arith, common_steps, source-arm)

pub any_arm_source-loop-arm-preserved : goal.any_arm_source-loop-arm-preserved
any_arm_source-loop-arm-preserved t c = grind (arith, common_steps, source-arm)
