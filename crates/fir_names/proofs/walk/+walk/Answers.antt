use Rattle.std.proofs.Common.{rules, refl, map}
use Rattle.fir_names.specs.Parts.{stmt_part, arm_part, in_turn}
use Rattle.fir_names.proofs.Walking.{walks_push, walks_shut}
use Rattle.fir_names.proofs.walk.+walk.Goals as goal

pub walk_arms-loop-arm-preserved : goal.walk_arms-loop-arm-preserved
walk_arms-loop-arm-preserved t c = walks_push arm_part c.args.arms.now c.loop-arm.arm-index c.arm-item.result (search rules) (search rules) c.loop-arm.invariant c.in_ok-walk_arm.ensures

pub walk_block-returns : goal.walk_block-returns
walk_block-returns t c = walks_shut (in_turn (map stmt_part c.args.statements.now)) c.in_ok-walk_statements.ensures refl refl refl refl (search rules)

pub walk_statements-loop-statement-preserved : goal.walk_statements-loop-statement-preserved
walk_statements-loop-statement-preserved t c = walks_push stmt_part c.args.statements.now c.loop-statement.statement-index c.statement-item.result (search rules) (search rules) c.loop-statement.invariant c.in_ok-walk_statement.ensures
