use Rattle.std.proofs.Common.{arith}
use Rattle.asked_texts.specs.Commands.{job}
use Rattle.sim_top.proofs.Judging.{refused_from, no_trace}
use Rattle.sim_top.proofs.judge.judge_texts.Goals as goal

pub returns-in_ok-judge_built-in-Ok-clause-judges : goal.returns-in_ok-judge_built-in-Ok-clause-judges
returns-in_ok-judge_built-in-Ok-clause-judges c = c.in_ok-judge_built-in-Ok.ensures.judges _ c.in-Ok.ensures.built

pub returns-in_ok-reply-in-Err-clause-judges : goal.returns-in_ok-reply-in-Err-clause-judges
returns-in_ok-reply-in-Err-clause-judges c =
    let told = c.in_ok-reply-in-Err.ensures in
    refused_from (job c.args.command) c.args.circuit.now c.args.stimulus.now _ told.1.0 _ _ c.in-Err.ensures.fault told.1.1 told.0 told.1.2

pub returns-in_ok-reply-in-Err-clause-fits : goal.returns-in_ok-reply-in-Err-clause-fits
returns-in_ok-reply-in-Err-clause-fits c = no_trace (job c.args.command) _ 2 (omega arith) c.in_ok-reply-in-Err.ensures.0
