use Rattle.std.proofs.Common.{◌∙◌, sym, subst, ap, length}
use Rattle.flat_code.specs.declared.instr.Wide.{Wide}
use Rattle.ground_net.specs.Shapes.{shaped}
use Rattle.code_draft.specs.Drafts.{Makes, IsForm, with_instr, with_wide}
use Rattle.flat_code.specs.Fine.{location_slots, slots_of}
use Rattle.code_draft.specs.Segments.{Step}
use Rattle.code_draft.proofs.Widened.{evaluated}
use Rattle.code_draft.proofs.Stepping.{wide_step}
use Rattle.code_draft.proofs.wide_values.wide_value.Goals as goal

pub returns-clause-makes : goal.returns-clause-makes
returns-clause-makes c = λ is there is_shape region.
    let d = c.args.draft.now in
    let s = c.in_ok-target.target in
    let w : Wide = record { form = c.args.form; operands = c.args.operands; target = s } in
    let e = c.in_ok-add_instr.ensures ∙ (ap (λ x. with_instr x c.instr_of.result) c.in_ok-number.ensures.draft
    ∙ ap (λ x. with_instr (with_wide x w) c.instr_of.result) c.in_ok-target.ensures.draft) in
    let first = c.instr_of.ensures.first ∙ (c.in_ok-number.ensures.number ∙ ap (λ x. length x.wides) c.in_ok-target.ensures.draft) in
    subst (λ x. Makes d x s (IsForm c.args.form s c.args.operands (shaped c.args.kind c.args.width))) (sym e)
    (evaluated d s c.args.kind c.args.width c.args.form c.args.operands c.instr_of.result is c.in_ok-target.ensures.location there is_shape region c.instr_of.ensures.op first)

pub returns-clause-step : goal.returns-clause-step
returns-clause-step c =
    let d = c.args.draft.now in
    let s = c.in_ok-target.target in
    let w : Wide = record { form = c.args.form; operands = c.args.operands; target = s } in
    let e = c.in_ok-add_instr.ensures ∙ (ap (λ x. with_instr x c.instr_of.result) c.in_ok-number.ensures.draft
    ∙ ap (λ x. with_instr (with_wide x w) c.instr_of.result) c.in_ok-target.ensures.draft) in
    let first = c.instr_of.ensures.first ∙ (c.in_ok-number.ensures.number ∙ ap (λ x. length x.wides) c.in_ok-target.ensures.draft) in
    subst (λ x. Step d x (slots_of c.args.operands) (location_slots s) 2) (sym e)
    (wide_step d s c.args.kind c.args.width c.in_ok-target.ensures.location c.args.form c.args.operands c.instr_of.result c.instr_of.ensures.op first)
