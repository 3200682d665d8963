use Rattle.std.proofs.Common.{◌≤◌, length, ap, Err, List, ℕ, subst, sym, ◌∙◌}
use Rattle.std.proofs.lemmas.Result.{IfOk-weaker}
use Rattle.asked_texts.specs.Commands.{joined_limit}
use Rattle.sim_top.specs.Needing.{the_held, the_state}
use Rattle.sim_top.proofs.AnswersOnce.{some_same}
use Rattle.asked_texts.specs.declared.texts.WholeFault.TheVariants.{TooLong}
use Rattle.sim_top.proofs.Replying.{whole_ready, state_answers, long_state_answers, rose_behind, err_same}
use Rattle.sim_top.proofs.top.decide_state.Goals as goal

pub returns-in_ok-reply-in-Err-TooLong-clause-answers : goal.returns-in_ok-reply-in-Err-TooLong-clause-answers
returns-in_ok-reply-in-Err-TooLong-clause-answers g c = λ texts held.
    let long = c.in-Err-TooLong.ensures.too_long (ap Err c.in-Err-TooLong.field-0-is) texts held in
    long_state_answers texts c.args.keeping _ _ long.0 _ _ long.1 long.2 c.in_ok-reply-in-Err-TooLong.ensures.0 c.in_ok-reply-in-Err-TooLong.ensures.1

pub returns-in_ok-reply-in-Err-TooLong-clause-ready : goal.returns-in_ok-reply-in-Err-TooLong-clause-ready
returns-in_ok-reply-in-Err-TooLong-clause-ready g c =
    whole_ready _ _ TooLong c.in_ok-reply-in-Err-TooLong.ensures.0 c.in_ok-reply-in-Err-TooLong.ensures.1

pub returns-in-Ok-clause-answers : goal.returns-in-Ok-clause-answers
returns-in-Ok-clause-answers g c = IfOk-weaker c.decide_from.result _ _ (λ d h. λ texts held.
    let s = h texts (c.in-Ok.ensures.holds ∙ held) in
    state_answers texts c.args.keeping _ _ c.in-Ok.joined.items s.0 d (c.in-Ok.ensures.text texts held) c.in-Ok.ensures.short s.1 (rw c.deref.ensures.value at s.2)) c.decide_from.ensures.answers

pub returns-in-Ok-clause-fault : goal.returns-in-Ok-clause-fault
returns-in-Ok-clause-fault g c = λ e. (
  _,
  the_state _ _ _ (λ texts text held told. subst (λ (xs : List ℕ). length xs ≤ joined_limit) (some_same _ _ (sym (c.in-Ok.ensures.text texts held) ∙ told)) c.in-Ok.ensures.short),
  rose_behind _ _ _ (c.in-Ok.ensures.never_falls _) (c.decide_from.ensures.fault e),
)

pub returns-in-Err-clause-fault : goal.returns-in-Err-clause-fault
returns-in-Err-clause-fault g c = λ e. (_, the_held _ _ _, c.in-Err.ensures.fault (ap Err (err_same _ _ e)))
