use Rattle.std.proofs.Common.{arith, subst, sym}
use Rattle.std.proofs.lemmas.Result.{IfOk-weaker}
use Rattle.asked_texts.specs.Commands.{Run}
use Rattle.sim_top.specs.Answers.{JudgesTexts}
use Rattle.sim_top.specs.Endings.{Gives, IsFor}
use Rattle.sim_top.proofs.Judging.{no_trace, ran_refused, ran_traced}
use Rattle.sim_top.proofs.judge.run.Goals as goal

pub returns-in-Ok-clause-judges : goal.returns-in-Ok-clause-judges
returns-in-Ok-clause-judges c =
    let takes = rw c.in-Ok.is at c.in_ok-settings.ensures.takes in
    IfOk-weaker c.watching.result _ _ (λ d h. λ text b.
    subst (Gives (JudgesTexts Run text c.args.stimulus.now)) (sym h.1) (ran_traced text _ c.args.built _ h.0 b (takes text b))) c.watching.ensures

pub returns-in-Ok-clause-fits : goal.returns-in-Ok-clause-fits
returns-in-Ok-clause-fits c = IfOk-weaker c.watching.result _ _ (λ d h. subst (IsFor Run) (sym h.1) h.2) c.watching.ensures

pub returns-in-Err-clause-judges : goal.returns-in-Err-clause-judges
returns-in-Err-clause-judges c = λ text b.
    let status = rw c.in-Err.is at c.in_ok-settings.ensures.status in
    let refuses = rw c.in-Err.is at c.in_ok-settings.ensures.refuses in
    ran_refused text _ c.args.built _ _ b status (refuses text b)

pub returns-in-Err-clause-fits : goal.returns-in-Err-clause-fits
returns-in-Err-clause-fits c =
    let status = rw c.in-Err.is at c.in_ok-settings.ensures.status in
    no_trace Run _ 3 (omega arith) status
