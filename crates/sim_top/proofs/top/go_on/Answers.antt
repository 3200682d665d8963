use Rattle.std.proofs.Common.{inl, inr, refl}
use Rattle.sim_top.proofs.Apart.{accepted_apart}
use Rattle.sim_top.proofs.Replying.{run_whole, run_cut, planned}
use Rattle.sim_top.proofs.top.go_on.Goals as goal

pub returns-in-Ok-clause-resumed : goal.returns-in-Ok-clause-resumed
returns-in-Ok-clause-resumed g c = λ begin begins.
    let r = c.requires.resumable.runnable in
    let b = r.is_built in
    let t = c.in-Ok.ensures.resumed r.are_watched _ _ b.ordered.serves (accepted_apart _ _ b.accepted) begin begins in (t.0, t.1, run_whole _ _ _ t.2)

pub returns-in-Err-WriteFault-clause-resumed : goal.returns-in-Err-WriteFault-clause-resumed
returns-in-Err-WriteFault-clause-resumed g c = λ begin begins.
    let r = c.requires.resumable.runnable in
    let b = r.is_built in
    let t = c.in-Err-WriteFault.ensures.resumed r.are_watched _ _ b.ordered.serves (accepted_apart _ _ b.accepted) begin begins in (t.0, t.1, run_cut 5 _ _ _ (inl refl) t.3)

pub returns-in-Err-NoMemory-clause-resumed : goal.returns-in-Err-NoMemory-clause-resumed
returns-in-Err-NoMemory-clause-resumed g c = λ begin begins.
    let r = c.requires.resumable.runnable in
    let b = r.is_built in
    let t = c.in-Err-NoMemory.ensures.resumed r.are_watched _ _ b.ordered.serves (accepted_apart _ _ b.accepted) begin begins in (t.0, t.1, run_cut 6 _ _ _ (inr refl) t.3)

pub resume-requires-clause-said : goal.resume-requires-clause-said
resume-requires-clause-said g c κs within = c.requires.resumable.runnable.is_built.ordered.serves.of.is.words

pub resume-requires-clause-planned : goal.resume-requires-clause-planned
resume-requires-clause-planned g c κs within = planned _ _ _ c.requires.resumable.runnable

pub resume-requires-clause-watched : goal.resume-requires-clause-watched
resume-requires-clause-watched g c κs within = c.requires.resumable.runnable.are_leaves

pub resume-requires-clause-cycle : goal.resume-requires-clause-cycle
resume-requires-clause-cycle g c κs within = c.requires.resumable.is_start.few

pub resume-requires-clause-holds : goal.resume-requires-clause-holds
resume-requires-clause-holds g c κs within = (c.requires.resumable.is_start.state, c.requires.resumable.is_start.holds)
