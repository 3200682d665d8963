use Rattle.std.proofs.Common.{ap, Err, inr}
use Rattle.sim_top.proofs.Replying.{ready_texts, no_usage_texts, line_usage}
use Rattle.sim_top.proofs.top.decide_under.Goals as goal

pub returns-in_ok-judge_texts-in-Ok-clause-answers : goal.returns-in_ok-judge_texts-in-Ok-clause-answers
returns-in_ok-judge_texts-in-Ok-clause-answers g c = λ texts held.
    (c.in-Ok.given.items, c.in-Ok.ensures.text texts held, rw c.deref.ensures.value at c.in_ok-judge_texts-in-Ok.ensures.judges)

pub returns-in_ok-judge_texts-in-Ok-clause-ready : goal.returns-in_ok-judge_texts-in-Ok-clause-ready
returns-in_ok-judge_texts-in-Ok-clause-ready g c = ready_texts _ _ _ c.in_ok-judge_texts-in-Ok.ensures.judges c.in_ok-judge_texts-in-Ok.ensures.fits

pub returns-in_ok-judge_texts-in-Ok-clause-usage : goal.returns-in_ok-judge_texts-in-Ok-clause-usage
returns-in_ok-judge_texts-in-Ok-clause-usage g c = no_usage_texts _ _ _ c.in_ok-judge_texts-in-Ok.ensures.judges

pub returns-in_ok-reply-in-Err-TooLong-clause-answers : goal.returns-in_ok-reply-in-Err-TooLong-clause-answers
returns-in_ok-reply-in-Err-TooLong-clause-answers g c = λ texts held.
    let long = c.in-Err-TooLong.ensures.too_long (ap Err c.in-Err-TooLong.field-0-is) texts held in
    (long.0, long.1, c.in_ok-reply-in-Err-TooLong.ensures.judges long.0 long.2)

pub returns-in_ok-reply-in-Err-TooLong-clause-ready : goal.returns-in_ok-reply-in-Err-TooLong-clause-ready
returns-in_ok-reply-in-Err-TooLong-clause-ready g c = inr (inr c.in_ok-reply-in-Err-TooLong.ensures.line)

pub returns-in_ok-reply-in-Err-TooLong-clause-usage : goal.returns-in_ok-reply-in-Err-TooLong-clause-usage
returns-in_ok-reply-in-Err-TooLong-clause-usage g c = line_usage _ _ c.in_ok-reply-in-Err-TooLong.ensures.line
