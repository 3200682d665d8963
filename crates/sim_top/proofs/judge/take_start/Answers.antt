use Rattle.std.proofs.Common.{ap, sym, subst, List, ℕ}
use Rattle.std.specs.Prelude.{Option, Some, None, IfOk, IfErr, option_map}
use Rattle.snapshot_text.specs.declared.snapshot.Snapshot.{Snapshot}
use Rattle.circuit_texts.specs.Held.{IsStartOf}
use Rattle.std.proofs.lemmas.Result.{IfOk-weaker}
use Rattle.sim_engine.specs.Building.{IsBuilt}
use Rattle.asked_texts.specs.Commands.{Told, Too_long, text_given}
use Rattle.sim_top.specs.Answers.{TakesState, no_state, told_state}
use Rattle.sim_top.proofs.Judging.{RefusesTheState, refuses_long_state, given_as}
use Rattle.sim_top.proofs.judge.take_start.Goals as goal

pub returns-in_ok-start-in-None-clause-takes : goal.returns-in_ok-start-in-None-clause-takes
returns-in_ok-start-in-None-clause-takes c =
    (None, subst (λ b. TakesState b None) (sym (ap (option_map text_given) c.in-None.is)) no_state, c.in_ok-start-in-None.ensures)

pub returns-in-Told-clause-takes : goal.returns-in-Told-clause-takes
returns-in-Told-clause-takes c =
    let text = c.in-Told.text.now in
    let e = given_as c.args.begin _ (Told text) c.in-Some.is (ap text_given c.in-Told.is) in
    let Taken : Snapshot → Type 0 = λ start. (state : Option (List ℕ)) × TakesState (option_map text_given c.args.begin) state × IsStartOf c.args.built.now.ordered.net state start in
    let each : (start : Snapshot) → IsStartOf c.args.built.now.ordered.net (Some text) start → Taken start = λ start s. (Some text, subst (λ b. TakesState b (Some text)) (sym e) (told_state text), s) in
    IfOk-weaker _ _ _ (λ taken h. IfOk-weaker taken _ _ each h) c.take_state.ensures.takes

pub returns-in-Told-clause-refuses : goal.returns-in-Told-clause-refuses
returns-in-Told-clause-refuses c =
    let e = given_as c.args.begin _ (Told c.in-Told.text.now) c.in-Some.is (ap text_given c.in-Told.is) in
    subst (λ b. IfOk c.take_state.result (λ taken. IfErr taken (λ reply. (circuit : List ℕ) → IsBuilt circuit c.args.built.now → RefusesTheState c.args.built.now b reply.bytes.items))) (sym e) c.take_state.ensures.refuses

pub returns-in_ok-reply-in-TooLong-clause-refuses : goal.returns-in_ok-reply-in-TooLong-clause-refuses
returns-in_ok-reply-in-TooLong-clause-refuses c = λ circuit b.
    let e = given_as c.args.begin _ Too_long c.in-Some.is (ap text_given c.in-TooLong.is) in
    let bytes = c.in_ok-reply-in-TooLong.reply.bytes.items in
    subst (λ x. RefusesTheState c.args.built.now x bytes) (sym e) (refuses_long_state c.args.built.now bytes c.in_ok-reply-in-TooLong.ensures.1)
