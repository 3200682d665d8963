use Rattle.std.proofs.Common.{rules}
use Rattle.reset_search.specs.Feeds.{stmt_walk, arm_walk}
use Rattle.reset_resolution.specs.Walked.{listed}
use Rattle.reset_resolution.proofs.Walking.{walks_push}
use Rattle.reset_resolution.proofs.walk.+walk.Goals as goal

pub walk_arms-loop-arm-preserved : goal.walk_arms-loop-arm-preserved
walk_arms-loop-arm-preserved t c = walks_push (arm_walk (listed c.args.context.instances.now.entries)) c.args.arms.now c.loop-arm.arm-index c.arm-item.result (search rules) (search rules) c.loop-arm.invariant c.in_ok-walk_arm.ensures

pub walk_statements-loop-statement-preserved : goal.walk_statements-loop-statement-preserved
walk_statements-loop-statement-preserved t c = walks_push (stmt_walk (listed c.args.context.instances.now.entries)) c.args.statements.now c.loop-statement.statement-index c.statement-item.result (search rules) (search rules) c.loop-statement.invariant c.in_ok-walk_statement.ensures
