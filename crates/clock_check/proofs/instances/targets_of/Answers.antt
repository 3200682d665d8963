use Rattle.clock_check.proofs.Making.{targets_more}
use Rattle.clock_check.proofs.instances.targets_of.Goals as goal

pub loop-at-preserved : goal.loop-at-preserved
loop-at-preserved c = targets_more c.args.instances.now c.loop-at.at _ c.loop-at.targets.entries c.insert_new.new.targets.entries c.loop-at-test.true c.loop-at.invariant
    c.in_ok-insert_new.ensures
