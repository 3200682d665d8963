use Rattle.ground_statements.proofs.Walks.{pushed_each}
use Rattle.ground_statements.proofs.targets.push_each.Goals as goal

pub loop-target-preserved : goal.loop-target-preserved
loop-target-preserved c =
    pushed_each c.args.settable.now c.args.source.now c.args.made.now c.loop-target.made c.push_one.new.made c.loop-target.yielded c.in-Some.target c.loop-target.invariant c.in_ok-push_one.ensures
