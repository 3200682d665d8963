use Rattle.sim_top.proofs.Replying.{planned}
use Rattle.sim_top.proofs.top.sum_up.Goals as goal

pub summarize-requires-clause-serves : goal.summarize-requires-clause-serves
summarize-requires-clause-serves g c κs within = (_, _, c.requires.runnable.is_built.ordered.serves)

pub summarize-requires-clause-planned : goal.summarize-requires-clause-planned
summarize-requires-clause-planned g c κs within = planned _ _ _ c.requires.runnable

pub returns-clause-summary : goal.returns-clause-summary
returns-clause-summary g c = let t = c.in_ok-summarize.ensures _ _ c.requires.runnable.is_built.ordered.serves in (t.0, t.1, t.2)

pub summarize-requires-clause-watched : goal.summarize-requires-clause-watched
summarize-requires-clause-watched g c κs within = c.requires.runnable.are_watched
