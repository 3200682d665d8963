use Rattle.sim_top.proofs.Apart.{accepted_apart}
use Rattle.sim_top.proofs.Replying.{save_planned, said_status, written_said, written_none}
use Rattle.sim_top.proofs.top.write_state.Goals as goal

pub returns-in-Ok-clause-saved : goal.returns-in-Ok-clause-saved
returns-in-Ok-clause-saved g c = λ begin begins.
    let b = c.requires.savable.is_built in
    written_said _ _ _ _ _ (c.in-Ok.ensures.saved _ _ b.ordered.serves (accepted_apart _ _ b.accepted) begin begins) c.say.ensures.said

pub returns-in-Ok-clause-status : goal.returns-in-Ok-clause-status
returns-in-Ok-clause-status g c = said_status 0 _ _ _ _ c.say.ensures.said

pub returns-in-Err-clause-saved : goal.returns-in-Err-clause-saved
returns-in-Err-clause-saved g c = λ begin begins. written_none _ _

pub save-requires-clause-said : goal.save-requires-clause-said
save-requires-clause-said g c κs within = c.requires.savable.is_built.ordered.serves.of.is.words

pub save-requires-clause-planned : goal.save-requires-clause-planned
save-requires-clause-planned g c κs within = save_planned _ _ _ c.requires.savable

pub save-requires-clause-cycle : goal.save-requires-clause-cycle
save-requires-clause-cycle g c κs within = c.requires.savable.is_start.few

pub save-requires-clause-holds : goal.save-requires-clause-holds
save-requires-clause-holds g c κs within = (c.requires.savable.is_start.state, c.requires.savable.is_start.holds)
