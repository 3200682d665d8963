use Rattle.std.proofs.Common.{◌≤◌, length, ap, Err, List, ℕ, subst, sym, ◌∙◌}
use Rattle.std.proofs.lemmas.Result.{IfOk-weaker}
use Rattle.sim_engine.specs.Stages.{circuit_limit}
use Rattle.sim_top.specs.Needing.{the_circuit, the_stimulus}
use Rattle.sim_top.proofs.AnswersOnce.{some_same}
use Rattle.asked_texts.specs.declared.texts.WholeFault.TheVariants.{TooLong}
use Rattle.sim_top.proofs.Replying.{whole_ready, texts_answer, circuit_answers, rose_behind, err_same}
use Rattle.sim_top.proofs.top.decide_two.Goals as goal

pub returns-in_ok-reply-in-Err-TooLong-clause-answers : goal.returns-in_ok-reply-in-Err-TooLong-clause-answers
returns-in_ok-reply-in-Err-TooLong-clause-answers g c = λ texts held.
    let long = c.in-Err-TooLong.ensures.too_long (ap Err c.in-Err-TooLong.field-0-is) texts held in
    circuit_answers texts _ _ long.0 _ _ long.1 long.2 c.in_ok-reply-in-Err-TooLong.ensures.0 c.in_ok-reply-in-Err-TooLong.ensures.1

pub returns-in_ok-reply-in-Err-TooLong-clause-ready : goal.returns-in_ok-reply-in-Err-TooLong-clause-ready
returns-in_ok-reply-in-Err-TooLong-clause-ready g c =
    whole_ready _ _ TooLong c.in_ok-reply-in-Err-TooLong.ensures.0 c.in_ok-reply-in-Err-TooLong.ensures.1

pub returns-in-Ok-clause-answers : goal.returns-in-Ok-clause-answers
returns-in-Ok-clause-answers g c = IfOk-weaker c.decide_under.result _ _ (λ d h. λ texts held.
    let s = h texts (c.in-Ok.ensures.holds ∙ held) in
    texts_answer texts _ _ c.in-Ok.text.items s.0 d (c.in-Ok.ensures.text texts held) c.in-Ok.ensures.short s.1 (rw c.deref.ensures.value at s.2)) c.decide_under.ensures.answers

pub returns-in-Ok-clause-fault : goal.returns-in-Ok-clause-fault
returns-in-Ok-clause-fault g c = λ e. (
  _,
  the_stimulus _ _ (λ texts text held told. subst (λ (xs : List ℕ). length xs ≤ circuit_limit) (some_same _ _ (sym (c.in-Ok.ensures.text texts held) ∙ told)) c.in-Ok.ensures.short),
  rose_behind _ _ _ (c.in-Ok.ensures.never_falls _) (c.decide_under.ensures.fault e),
)

pub returns-in-Err-clause-fault : goal.returns-in-Err-clause-fault
returns-in-Err-clause-fault g c = λ e. (_, the_circuit _ _, c.in-Err.ensures.fault (ap Err (err_same _ _ e)))
