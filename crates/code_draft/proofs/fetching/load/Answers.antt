use Rattle.std.proofs.Common.{[], rules, ◌≡◌, ◌+◌, ◌≤◌, ◌<◌, ◌∙◌, sym, subst, ap, arith}
use Rattle.ground_net.specs.Shapes.{shaped}
use Rattle.code_draft.specs.Drafts.{Makes, IsWord, with_instr}
use Rattle.code_draft.specs.Segments.{Step}
use Rattle.flat_code.specs.Fine.{location_slots}
use Rattle.code_draft.proofs.Fetches.{loaded_narrow, loaded_wide}
use Rattle.code_draft.proofs.Stepping.{one_fetched, two_fetched, quiet_load}
use Rattle.code_draft.proofs.fetching.load.Goals as goal

pub returns-then-width-le64-clause-makes : goal.returns-then-width-le64-clause-makes
returns-then-width-le64-clause-makes c = λ is room.
    let d = c.args.draft.now in
    let s = c.in_ok-location.location in
    let few : c.args.width ≤ 64 = omega (arith, c.if-width-le64.true) in
    let e = c.in_ok-add_instr.ensures ∙ ap (λ x. with_instr x c.fetch-low.result) c.in_ok-location.ensures.draft in
    subst (λ x. Makes d x s (IsWord (shaped c.args.kind c.args.width) c.args.word)) (sym e)
    (loaded_narrow d s c.args.kind c.args.width is c.in_ok-location.ensures.location c.requires c.fetch-low.result c.args.word few room c.fetch-low.ensures.op c.fetch-low.ensures.first c.fetch-low.ensures.target
    (c.fetch-low.ensures.mask ∙ c.low_mask.ensures.narrow few))

pub returns-clause-makes : goal.returns-clause-makes
returns-clause-makes c = λ is room.
    let d = c.args.draft.now in
    let s = c.in_ok-location.location in
    let many : 64 < c.args.width = omega (arith, c.if-width-le64.false) in
    let next : c.in-Some.next ≡ c.args.word + 1 = search (rules, c.checked_add.ensures, c.in-Some.is, c.in-Some.ensures) in
    let e = c.in_ok-add_instr-3.ensures ∙ (ap (λ x. with_instr x c.fetch-high.result) c.in_ok-add_instr-2.ensures
    ∙ ap (λ x. with_instr (with_instr x c.fetch-low.result) c.fetch-high.result) c.in_ok-location.ensures.draft) in
    subst (λ x. Makes d x s (IsWord (shaped c.args.kind c.args.width) c.args.word)) (sym e)
    (loaded_wide d s c.args.kind c.args.width is c.in_ok-location.ensures.location c.requires c.fetch-low.result c.fetch-high.result c.args.word many room c.fetch-low.ensures.op c.fetch-high.ensures.op
    c.fetch-low.ensures.first (c.fetch-high.ensures.first ∙ next) c.fetch-low.ensures.target c.fetch-high.ensures.target (c.fetch-low.ensures.mask ∙ c.low_mask.ensures.wide (omega (arith, many)))
    (c.fetch-high.ensures.mask ∙ c.high_mask.ensures c.requires))

pub returns-then-width-le64-clause-step : goal.returns-then-width-le64-clause-step
returns-then-width-le64-clause-step c =
    let d = c.args.draft.now in
    let s = c.in_ok-location.location in
    let e = c.in_ok-add_instr.ensures ∙ ap (λ x. with_instr x c.fetch-low.result) c.in_ok-location.ensures.draft in
    subst (λ x. Step d x [] (location_slots s) 2) (sym e)
    (one_fetched d s c.args.kind c.args.width c.in_ok-location.ensures.location c.fetch-low.result (quiet_load c.fetch-low.result c.fetch-low.ensures.op) c.fetch-low.ensures.target)

pub returns-clause-step : goal.returns-clause-step
returns-clause-step c =
    let d = c.args.draft.now in
    let s = c.in_ok-location.location in
    let e = c.in_ok-add_instr-3.ensures ∙ (ap (λ x. with_instr x c.fetch-high.result) c.in_ok-add_instr-2.ensures
    ∙ ap (λ x. with_instr (with_instr x c.fetch-low.result) c.fetch-high.result) c.in_ok-location.ensures.draft) in
    subst (λ x. Step d x [] (location_slots s) 2) (sym e)
    (two_fetched d s c.args.kind c.args.width c.in_ok-location.ensures.location c.fetch-low.result c.fetch-high.result (quiet_load c.fetch-low.result c.fetch-low.ensures.op) (quiet_load c.fetch-high.result c.fetch-high.ensures.op)
    c.fetch-low.ensures.target c.fetch-high.ensures.target)
