use Rattle.std.proofs.Common.{arith}
use Rattle.sim_top.proofs.Judging.{refuses_long, refuses_fault, takes_read}
use Rattle.sim_top.proofs.Small.{few_inputs}
use Rattle.sim_top.proofs.judge.take_stimulus.Goals as goal

pub returns-then-text-gt-STIMULUS_LIMIT-clause-refuses : goal.returns-then-text-gt-STIMULUS_LIMIT-clause-refuses
returns-then-text-gt-STIMULUS_LIMIT-clause-refuses c = λ circuit b. refuses_long c.args.built.now c.args.text.now _ c.if-text-gt-STIMULUS_LIMIT.true c.in_ok-reply.ensures.1

pub returns-in-Ok-clause-takes : goal.returns-in-Ok-clause-takes
returns-in-Ok-clause-takes c = λ circuit b.
    takes_read circuit _ c.args.built.now _ b (omega (arith, c.if-text-gt-STIMULUS_LIMIT.false)) c.in-Ok.ensures.verdict

pub returns-in_ok-reply-in-Err-clause-refuses : goal.returns-in_ok-reply-in-Err-clause-refuses
returns-in_ok-reply-in-Err-clause-refuses c = λ circuit b.
    let told = c.in_ok-reply-in-Err.ensures in
    refuses_fault circuit _ c.args.built.now _ told.1.0 _ b (omega (arith, c.if-text-gt-STIMULUS_LIMIT.false)) c.in-Err.ensures.verdict told.1.1 told.1.2

pub read_stimulus-requires-clause-few : goal.read_stimulus-requires-clause-few
read_stimulus-requires-clause-few c = few_inputs c.accepted_nets_are_small.ensures.inputs c.requires.0 c.args.built.now c.requires.1
