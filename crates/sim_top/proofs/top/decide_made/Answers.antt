use Rattle.std.proofs.Common.{subst}
use Rattle.asked_texts.specs.Commands.{Run}
use Rattle.sim_top.specs.Endings.{IsFor}
use Rattle.sim_top.proofs.Replying.{made_said, made_reply, made_usage, made_run}
use Rattle.sim_top.proofs.top.decide_made.Goals as goal

pub returns-in-Say-clause-answers : goal.returns-in-Say-clause-answers
returns-in-Say-clause-answers g c = λ texts.
    made_said texts c.args.cycles c.args.size _ _ c.in-Say.is (c.in_ok-decision.ensures.judges, c.in_ok-decision.ensures.fits)

pub returns-in-Say-clause-ready : goal.returns-in-Say-clause-ready
returns-in-Say-clause-ready g c = made_reply c.args.cycles c.args.size _ _ c.in-Say.is (c.in_ok-decision.ensures.judges, c.in_ok-decision.ensures.fits)

pub returns-in-Say-clause-usage : goal.returns-in-Say-clause-usage
returns-in-Say-clause-usage g c = made_usage c.args.cycles c.args.size _ _ c.in-Say.is (c.in_ok-decision.ensures.judges, c.in_ok-decision.ensures.fits)

pub sum_up-requires-clause-runnable : goal.sum_up-requires-clause-runnable
sum_up-requires-clause-runnable g c κs within = rw c.as_slice.ensures (subst (IsFor Run) c.in-Run.is c.in_ok-decision.ensures.fits)

pub returns-in_ok-sum_up-in-Run-clause-answers : goal.returns-in_ok-sum_up-in-Run-clause-answers
returns-in_ok-sum_up-in-Run-clause-answers g c = λ texts.
    let sums = c.in_ok-sum_up-in-Run.ensures.summary in
    made_run texts c.args.cycles c.args.size _ _ _ _ sums.0 _ _ c.in-Run.is (c.in_ok-decision.ensures.judges, c.in_ok-decision.ensures.fits) c.in_ok-sum_up-in-Run.ensures.status sums.1 sums.2
