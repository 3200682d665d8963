use Rattle.std.proofs.Common.{sym, subst, ap}
use Rattle.code_draft.specs.Drafts.{Makes}
use Rattle.flat_code.specs.Fine.{location_slots}
use Rattle.code_draft.specs.Segments.{Step}
use Rattle.code_draft.proofs.Joining.{step_not}
use Rattle.code_draft.proofs.Stepping.{location_few}
use Rattle.code_emit.specs.Emits.{Fits, IsOf}
use Rattle.code_emit.specs.Spans.{source_slots}
use Rattle.code_emit.proofs.Shaped.{ok_so}
use Rattle.code_emit.proofs.emission.fetch.Goals as goal

pub returns-in-Word-clause-makes : goal.returns-in-Word-clause-makes
returns-in-Word-clause-makes c =
    let d = c.args.draft.now in
    let e = c.in-Word.is in
    ok_so c.load.result c.load.ensures.makes (λ s m is fits. subst (λ src. Makes d c.load.new.draft s (IsOf src)) (sym e) (m is (subst (Fits d) e fits)))

pub returns-in-Input-clause-makes : goal.returns-in-Input-clause-makes
returns-in-Input-clause-makes c =
    let d = c.args.draft.now in
    ok_so c.input.result c.input.ensures.makes (λ s m is fits. subst (λ src. Makes d c.input.new.draft s (IsOf src)) (sym c.in-Input.is) (m is))

pub returns-in-Constant-clause-makes : goal.returns-in-Constant-clause-makes
returns-in-Constant-clause-makes c =
    let d = c.args.draft.now in
    ok_so c.constant.result c.constant.ensures.makes (λ s m is fits. subst (λ src. Makes d c.constant.new.draft s (IsOf src)) (sym c.in-Constant.is) (m is))

pub returns-in-Word-clause-step : goal.returns-in-Word-clause-step
returns-in-Word-clause-step c =
    ok_so c.load.result c.load.ensures.step (λ s st. subst (λ xs. Step c.args.draft.now c.load.new.draft xs (location_slots s) 2) (sym (ap source_slots c.in-Word.is)) st)

pub returns-in-Input-clause-step : goal.returns-in-Input-clause-step
returns-in-Input-clause-step c =
    ok_so c.input.result c.input.ensures.step (λ s st. subst (λ xs. Step c.args.draft.now c.input.new.draft xs (location_slots s) 2) (sym (ap source_slots c.in-Input.is)) st)

pub returns-in-Constant-clause-step : goal.returns-in-Constant-clause-step
returns-in-Constant-clause-step c =
    ok_so c.constant.result c.constant.ensures.step (λ s st. subst (λ xs. Step c.args.draft.now c.constant.new.draft xs (location_slots s) 2) (sym (ap source_slots c.in-Constant.is)) st)

pub returns-in-Frame-clause-step : goal.returns-in-Frame-clause-step
returns-in-Frame-clause-step c =
    let d = c.args.draft.now in
    let s = c.in-Frame.location in
    subst (λ xs. Step d d xs (location_slots s) 2) (sym (ap source_slots c.in-Frame.is)) (step_not d (location_slots s) (location_slots s) 2 (λ k e. e) (location_few s))
