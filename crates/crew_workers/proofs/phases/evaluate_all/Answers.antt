use Rattle.std.proofs.Common.{◌∙◌}
use Rattle.crew_workers.proofs.Lists.{through_next}
use Rattle.crew_workers.proofs.phases.evaluate_all.Goals as goal

pub loop-i-preserved : goal.loop-i-preserved
loop-i-preserved g c = let e = c.evaluate_one.ensures in record {
  through = through_next _ _ _ _ _ c.index-workers-i.result c.loop-i.invariant.through c.loop-i-test.true (e.at, e.duty);
  frame = e.frame ∙ c.loop-i.invariant.frame;
}
