use Rattle.std.proofs.Common.{rules}
use Rattle.width_fit.specs.Walks.{solved, stmt_among, arm_among}
use Rattle.width_fit.proofs.Walking.{walks_push}
use Rattle.width_fit.proofs.walk.+walk.Goals as goal

pub walk_arms-loop-arm-preserved : goal.walk_arms-loop-arm-preserved
walk_arms-loop-arm-preserved t c = record {
  walks = walks_push (arm_among (solved c.args.given.now) c.args.given.now.instances.components.entries) c.args.arms.now c.loop-arm.arm-index c.arm-item.result (search rules) (search rules)
      c.loop-arm.invariant.walks c.in_ok-walk_arm.ensures.walks;
  fits = c.in_ok-walk_arm.ensures.fits;
}

pub walk_statements-loop-statement-preserved : goal.walk_statements-loop-statement-preserved
walk_statements-loop-statement-preserved t c = record {
  walks = walks_push (stmt_among (solved c.args.given.now) c.args.given.now.instances.components.entries) c.args.statements.now c.loop-statement.statement-index c.statement-item.result (search rules) (search rules)
      c.loop-statement.invariant.walks c.in_ok-walk_statement.ensures.walks;
  fits = c.in_ok-walk_statement.ensures.fits;
}
