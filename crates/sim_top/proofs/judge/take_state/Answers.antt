use Rattle.sim_top.proofs.Judging.{refuses_state_fault, takes_state}
use Rattle.sim_top.proofs.judge.take_state.Goals as goal

pub read_state-requires-clause-net : goal.read_state-requires-clause-net
read_state-requires-clause-net c = c.requires.built.1.ordered.serves.of.well_formed

pub returns-in-Ok-clause-takes : goal.returns-in-Ok-clause-takes
returns-in-Ok-clause-takes c = takes_state c.requires.built.0 c.args.text.now c.args.built.now _ c.requires.built.1 c.in-Ok.ensures.verdict

pub returns-in_ok-reply-in-Err-clause-refuses : goal.returns-in_ok-reply-in-Err-clause-refuses
returns-in_ok-reply-in-Err-clause-refuses c = λ circuit b.
    let told = c.in_ok-reply-in-Err.ensures in
    refuses_state_fault circuit c.args.text.now c.args.built.now _ told.1.0 _ b c.in-Err.ensures.verdict told.1.1 told.1.2
