use Rattle.std.proofs.Common.{◌++◌, map, arith}
use Rattle.std.proofs.lemmas.Grind.{common_steps}
use Rattle.plain_cycle.specs.Held.{held}
use Rattle.plain_cycle.proofs.Telling.{kept_from, kept_more, kept_all, kept_by_when, on_ok}
use Rattle.plain_cycle.proofs.declarations.+walk.Goals as goal

pub push_block-loop-statement-preserved : goal.push_block-loop-statement-preserved
push_block-loop-statement-preserved t c =
    kept_more c.args.block.now c.loop-statement.statement-index c.statement-item.result (map held c.args.all.now.items ++ kept_from c.args.block.now 0) (map held c.loop-statement.all.items)
    (map held c.push_statement.new.all.items) (omega arith) c.statement-item.is c.in_ok-push_statement.ensures c.loop-statement.invariant

pub push_block-returns : goal.push_block-returns
push_block-returns t c =
    kept_all c.args.block.now c.loop-statement.statement-index (map held c.args.all.now.items) (map held c.loop-statement.all.items) (omega arith) c.loop-statement.invariant

pub push_statement-returns-in_ok-push_arms-in-When : goal.push_statement-returns-in_ok-push_arms-in-When
push_statement-returns-in_ok-push_arms-in-When t c =
    on_ok c.push_block.result
    (λ h behind. let e = kept_by_when c.args.statement.now c.in-When.arms c.in-When.other c.in-When.is c.args.block.now behind in grind (arith, common_steps, e, h))
    c.push_block.ensures
