use Rattle.ground_statements.proofs.Walks.{elements_more}
use Rattle.ground_statements.proofs.targets.+every_target.Goals as goal

pub loop-number-preserved : goal.loop-number-preserved
loop-number-preserved t c =
    elements_more c.in-Some.pick.now c.in-Some.rest.now c.args.leaf c.loop-number.number c.in_ok-element_leaf.field-0 c.loop-number.listed c.push_picked.new.listed c.in_ok-inner.inner
    c.loop-number.invariant c.in_ok-element_leaf.ensures c.in_ok-inner.ensures c.in_ok-push_picked.ensures
