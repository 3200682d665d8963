use Rattle.sim_top.proofs.Replying.{planned}
use Rattle.sim_top.proofs.top.trace.Goals as goal

pub simulate-requires-clause-said : goal.simulate-requires-clause-said
simulate-requires-clause-said g c κs within = c.requires.runnable.is_built.ordered.serves.of.is.words

pub simulate-requires-clause-planned : goal.simulate-requires-clause-planned
simulate-requires-clause-planned g c κs within = planned _ _ _ c.requires.runnable

pub simulate-requires-clause-watched : goal.simulate-requires-clause-watched
simulate-requires-clause-watched g c κs within = c.requires.runnable.are_leaves

pub returns-clause-traced : goal.returns-clause-traced
returns-clause-traced g c = c.simulate.ensures.traced c.requires.runnable.are_watched _ _ c.requires.runnable.is_built.ordered.serves
