use Rattle.std.proofs.Common.{[], ◌∙◌, sym, subst, ap, arith}
use Rattle.code_draft.specs.Drafts.{Makes, IsConstant, with_instr}
use Rattle.code_draft.specs.Segments.{Step}
use Rattle.flat_code.specs.Fine.{location_slots}
use Rattle.code_draft.proofs.Fetches.{constant_narrow, constant_wide}
use Rattle.code_draft.proofs.Stepping.{one_fetched, two_fetched, quiet_constant}
use Rattle.code_draft.proofs.fetching.constant.Goals as goal

pub returns-then-value-le64-clause-makes : goal.returns-then-value-le64-clause-makes
returns-then-value-le64-clause-makes c = λ is.
    let d = c.args.draft.now in
    let s = c.in_ok-location.location in
    let e = c.in_ok-add_instr.ensures ∙ ap (λ x. with_instr x c.fetch-low.result) c.in_ok-location.ensures.draft in
    subst (λ x. Makes d x s (IsConstant c.args.value)) (sym e)
    (constant_narrow d s c.args.value c.fetch-low.result is c.in_ok-location.ensures.location (omega (arith, c.if-value-le64.true)) c.fetch-low.ensures.op c.fetch-low.ensures.target
    (c.fetch-low.ensures.mask ∙ c.low_word.ensures))

pub returns-clause-makes : goal.returns-clause-makes
returns-clause-makes c = λ is.
    let d = c.args.draft.now in
    let s = c.in_ok-location.location in
    let e = c.in_ok-add_instr-3.ensures ∙ (ap (λ x. with_instr x c.fetch-high.result) c.in_ok-add_instr-2.ensures
    ∙ ap (λ x. with_instr (with_instr x c.fetch-low.result) c.fetch-high.result) c.in_ok-location.ensures.draft) in
    subst (λ x. Makes d x s (IsConstant c.args.value)) (sym e)
    (constant_wide d s c.args.value c.fetch-low.result c.fetch-high.result is c.in_ok-location.ensures.location (omega (arith, c.if-value-le64.false)) c.fetch-low.ensures.op c.fetch-high.ensures.op
    c.fetch-low.ensures.target c.fetch-high.ensures.target (c.fetch-low.ensures.mask ∙ c.low_word.ensures) (c.fetch-high.ensures.mask ∙ c.high_word.ensures))

pub returns-then-value-le64-clause-step : goal.returns-then-value-le64-clause-step
returns-then-value-le64-clause-step c =
    let d = c.args.draft.now in
    let s = c.in_ok-location.location in
    let e = c.in_ok-add_instr.ensures ∙ ap (λ x. with_instr x c.fetch-low.result) c.in_ok-location.ensures.draft in
    subst (λ x. Step d x [] (location_slots s) 2) (sym e)
    (one_fetched d s c.args.value.kind c.args.value.width c.in_ok-location.ensures.location c.fetch-low.result (quiet_constant c.fetch-low.result c.fetch-low.ensures.op) c.fetch-low.ensures.target)

pub returns-clause-step : goal.returns-clause-step
returns-clause-step c =
    let d = c.args.draft.now in
    let s = c.in_ok-location.location in
    let e = c.in_ok-add_instr-3.ensures ∙ (ap (λ x. with_instr x c.fetch-high.result) c.in_ok-add_instr-2.ensures
    ∙ ap (λ x. with_instr (with_instr x c.fetch-low.result) c.fetch-high.result) c.in_ok-location.ensures.draft) in
    subst (λ x. Step d x [] (location_slots s) 2) (sym e)
    (two_fetched d s c.args.value.kind c.args.value.width c.in_ok-location.ensures.location c.fetch-low.result c.fetch-high.result (quiet_constant c.fetch-low.result c.fetch-low.ensures.op) (quiet_constant c.fetch-high.result c.fetch-high.ensures.op)
    c.fetch-low.ensures.target c.fetch-high.ensures.target)
