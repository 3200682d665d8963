use Rattle.std.proofs.Common.{arith}
use Rattle.asked_texts.specs.Commands.{job}
use Rattle.sim_top.proofs.Judging.{gives_part, long_part, no_trace}
use Rattle.sim_top.proofs.judge.judge_part.Goals as goal

pub returns-then-circuit-gt-CIRCUIT_LIMIT-clause-judges : goal.returns-then-circuit-gt-CIRCUIT_LIMIT-clause-judges
returns-then-circuit-gt-CIRCUIT_LIMIT-clause-judges c = λ joined within part.
    long_part (job c.args.command) joined c.args.circuit.now c.args.stimulus.now within part c.if-circuit-gt-CIRCUIT_LIMIT.true _ _ c.in_ok-reply.ensures.0 c.in_ok-reply.ensures.1

pub returns-clause-judges : goal.returns-clause-judges
returns-clause-judges c = λ joined within part.
    gives_part (job c.args.command) joined c.args.circuit.now c.args.stimulus.now _ within part (omega (arith, c.if-circuit-gt-CIRCUIT_LIMIT.false)) c.in_ok-judge_texts.ensures.judges

pub returns-then-circuit-gt-CIRCUIT_LIMIT-clause-fits : goal.returns-then-circuit-gt-CIRCUIT_LIMIT-clause-fits
returns-then-circuit-gt-CIRCUIT_LIMIT-clause-fits c = no_trace (job c.args.command) _ 2 (omega arith) c.in_ok-reply.ensures.0
