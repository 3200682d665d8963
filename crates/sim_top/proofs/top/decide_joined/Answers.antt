use Rattle.std.proofs.Common.{ap, Err}
use Rattle.asked_texts.specs.Commands.{job}
use Rattle.asked_texts.specs.declared.texts.WholeFault.TheVariants.{TooLong}
use Rattle.sim_top.proofs.Replying.{ready_decision, no_usage, whole_ready, name_answers, long_answers}
use Rattle.sim_top.proofs.top.decide_joined.Goals as goal

pub returns-in_ok-judge-in-Ok-clause-answers : goal.returns-in_ok-judge-in-Ok-clause-answers
returns-in_ok-judge-in-Ok-clause-answers g c = λ texts held.
    name_answers texts (job c.args.command) _ c.in-Ok.text.items _ (c.in-Ok.ensures.text texts held) (rw c.deref.ensures.value at c.in_ok-judge-in-Ok.ensures.judges)

pub returns-in_ok-judge-in-Ok-clause-ready : goal.returns-in_ok-judge-in-Ok-clause-ready
returns-in_ok-judge-in-Ok-clause-ready g c = ready_decision _ _ _ c.in_ok-judge-in-Ok.ensures.judges c.in_ok-judge-in-Ok.ensures.fits

pub returns-in_ok-judge-in-Ok-clause-usage : goal.returns-in_ok-judge-in-Ok-clause-usage
returns-in_ok-judge-in-Ok-clause-usage g c = no_usage _ _ _ c.in_ok-judge-in-Ok.ensures.judges

pub returns-in_ok-reply-in-Err-TooLong-clause-answers : goal.returns-in_ok-reply-in-Err-TooLong-clause-answers
returns-in_ok-reply-in-Err-TooLong-clause-answers g c = λ texts held.
    let long = c.in-Err-TooLong.ensures.too_long (ap Err c.in-Err-TooLong.field-0-is) texts held in
    long_answers texts (job c.args.command) _ long.0 _ _ long.1 long.2 c.in_ok-reply-in-Err-TooLong.ensures.0 c.in_ok-reply-in-Err-TooLong.ensures.1

pub returns-in_ok-reply-in-Err-TooLong-clause-ready : goal.returns-in_ok-reply-in-Err-TooLong-clause-ready
returns-in_ok-reply-in-Err-TooLong-clause-ready g c =
    whole_ready _ _ TooLong c.in_ok-reply-in-Err-TooLong.ensures.0 c.in_ok-reply-in-Err-TooLong.ensures.1
