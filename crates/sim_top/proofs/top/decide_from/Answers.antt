use Rattle.std.proofs.Common.{ap, Err}
use Rattle.sim_top.proofs.Replying.{ready_decision, no_usage, told_gives, long_gives}
use Rattle.sim_top.proofs.top.decide_from.Goals as goal

pub returns-in_ok-judge_from-in-Ok-clause-answers : goal.returns-in_ok-judge_from-in-Ok-clause-answers
returns-in_ok-judge_from-in-Ok-clause-answers g c = λ texts held. (
  c.in-Ok.text.items,
  c.in-Ok.ensures.text texts held,
  told_gives c.args.keeping c.in-Ok.text.items c.args.joined.now _ c.in-Ok.ensures.short (rw c.deref.ensures.value at c.in_ok-judge_from-in-Ok.ensures.judges),
)

pub returns-in_ok-judge_from-in-Ok-clause-ready : goal.returns-in_ok-judge_from-in-Ok-clause-ready
returns-in_ok-judge_from-in-Ok-clause-ready g c = ready_decision _ _ _ c.in_ok-judge_from-in-Ok.ensures.judges c.in_ok-judge_from-in-Ok.ensures.fits

pub returns-in_ok-judge_from-in-Ok-clause-usage : goal.returns-in_ok-judge_from-in-Ok-clause-usage
returns-in_ok-judge_from-in-Ok-clause-usage g c = no_usage _ _ _ c.in_ok-judge_from-in-Ok.ensures.judges

pub returns-in_ok-judge_from-in-Err-TooLong-clause-answers : goal.returns-in_ok-judge_from-in-Err-TooLong-clause-answers
returns-in_ok-judge_from-in-Err-TooLong-clause-answers g c = λ texts held.
    let long = c.in-Err-TooLong.ensures.too_long (ap Err c.in-Err-TooLong.field-0-is) texts held in
    (long.0, long.1, long_gives c.args.keeping long.0 c.args.joined.now _ long.2 c.in_ok-judge_from-in-Err-TooLong.ensures.judges)

pub returns-in_ok-judge_from-in-Err-TooLong-clause-ready : goal.returns-in_ok-judge_from-in-Err-TooLong-clause-ready
returns-in_ok-judge_from-in-Err-TooLong-clause-ready g c = ready_decision _ _ _ c.in_ok-judge_from-in-Err-TooLong.ensures.judges c.in_ok-judge_from-in-Err-TooLong.ensures.fits

pub returns-in_ok-judge_from-in-Err-TooLong-clause-usage : goal.returns-in_ok-judge_from-in-Err-TooLong-clause-usage
returns-in_ok-judge_from-in-Err-TooLong-clause-usage g c = no_usage _ _ _ c.in_ok-judge_from-in-Err-TooLong.ensures.judges
