use Rattle.std.proofs.Common.{[], ◌≤◌, ◌<◌, ◌∙◌, sym, subst, ap, arith}
use Rattle.ground_net.specs.Shapes.{shaped}
use Rattle.code_draft.specs.Drafts.{Makes, IsInput, with_instr}
use Rattle.code_draft.specs.Segments.{Step}
use Rattle.flat_code.specs.Fine.{location_slots}
use Rattle.code_draft.proofs.Fetches.{input_narrow, input_wide}
use Rattle.code_draft.proofs.Stepping.{one_fetched, two_fetched, quiet_high, quiet_input}
use Rattle.code_draft.proofs.fetching.input.Goals as goal

pub returns-then-width-le64-clause-makes : goal.returns-then-width-le64-clause-makes
returns-then-width-le64-clause-makes c = λ is.
    let d = c.args.draft.now in
    let s = c.in_ok-location.location in
    let few : c.args.width ≤ 64 = omega (arith, c.if-width-le64.true) in
    let e = c.in_ok-add_instr.ensures ∙ ap (λ x. with_instr x c.fetch-low.result) c.in_ok-location.ensures.draft in
    subst (λ x. Makes d x s (IsInput (shaped c.args.kind c.args.width) c.args.number)) (sym e)
    (input_narrow d s c.args.kind c.args.width is c.in_ok-location.ensures.location c.requires c.fetch-low.result c.args.number few c.fetch-low.ensures.op c.fetch-low.ensures.first c.fetch-low.ensures.target
    (c.fetch-low.ensures.mask ∙ c.low_mask.ensures.narrow few))

pub returns-clause-makes : goal.returns-clause-makes
returns-clause-makes c = λ is.
    let d = c.args.draft.now in
    let s = c.in_ok-location.location in
    let many : 64 < c.args.width = omega (arith, c.if-width-le64.false) in
    let e = c.in_ok-add_instr-3.ensures ∙ (ap (λ x. with_instr x c.fetch-high.result) c.in_ok-add_instr-2.ensures
    ∙ ap (λ x. with_instr (with_instr x c.fetch-low.result) c.fetch-high.result) c.in_ok-location.ensures.draft) in
    subst (λ x. Makes d x s (IsInput (shaped c.args.kind c.args.width) c.args.number)) (sym e)
    (input_wide d s c.args.kind c.args.width is c.in_ok-location.ensures.location c.requires c.fetch-low.result c.fetch-high.result c.args.number many c.fetch-low.ensures.op c.fetch-high.ensures.op
    c.fetch-low.ensures.first c.fetch-high.ensures.first c.fetch-low.ensures.target c.fetch-high.ensures.target (c.fetch-low.ensures.mask ∙ c.low_mask.ensures.wide (omega (arith, many)))
    (c.fetch-high.ensures.mask ∙ c.high_mask.ensures c.requires))

pub returns-then-width-le64-clause-step : goal.returns-then-width-le64-clause-step
returns-then-width-le64-clause-step c =
    let d = c.args.draft.now in
    let s = c.in_ok-location.location in
    let e = c.in_ok-add_instr.ensures ∙ ap (λ x. with_instr x c.fetch-low.result) c.in_ok-location.ensures.draft in
    subst (λ x. Step d x [] (location_slots s) 2) (sym e)
    (one_fetched d s c.args.kind c.args.width c.in_ok-location.ensures.location c.fetch-low.result (quiet_input c.fetch-low.result c.fetch-low.ensures.op) c.fetch-low.ensures.target)

pub returns-clause-step : goal.returns-clause-step
returns-clause-step c =
    let d = c.args.draft.now in
    let s = c.in_ok-location.location in
    let e = c.in_ok-add_instr-3.ensures ∙ (ap (λ x. with_instr x c.fetch-high.result) c.in_ok-add_instr-2.ensures
    ∙ ap (λ x. with_instr (with_instr x c.fetch-low.result) c.fetch-high.result) c.in_ok-location.ensures.draft) in
    subst (λ x. Step d x [] (location_slots s) 2) (sym e)
    (two_fetched d s c.args.kind c.args.width c.in_ok-location.ensures.location c.fetch-low.result c.fetch-high.result (quiet_input c.fetch-low.result c.fetch-low.ensures.op) (quiet_high c.fetch-high.result c.fetch-high.ensures.op)
    c.fetch-low.ensures.target c.fetch-high.ensures.target)
