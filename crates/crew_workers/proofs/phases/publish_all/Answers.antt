use Rattle.crew_workers.proofs.Lists.{through_next}
use Rattle.crew_workers.proofs.phases.publish_all.Goals as goal

pub loop-i-preserved : goal.loop-i-preserved
loop-i-preserved g c = let e = c.publish_one.ensures in record {
  through = through_next _ _ _ _ _ c.index-workers-i.result c.loop-i.invariant.through c.loop-i-test.true (e.at, e.duty);
}
