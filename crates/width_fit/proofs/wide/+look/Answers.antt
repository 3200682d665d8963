use Rattle.std.proofs.Common.{rules, refl, ◌∙◌}
use Rattle.width_fit.specs.Judging.{survey, widths_of}
use Rattle.width_fit.specs.Surveys.{kept}
use Rattle.part_fits.proofs.Seeing.{within}
use Rattle.width_fit.proofs.Surveys.{adds_filled}
use Rattle.width_fit.proofs.Choosing.{reference_seen, reference_adds, three_items, choice_seen, choice_adds}
use Rattle.width_fit.proofs.wide.+look.Goals as goal

pub look_among-returns-clause-found : goal.look_among-returns-clause-found
look_among-returns-clause-found t c =
    let ws = c.args.among.now.widths.now in
    let s = survey ws c.args.expr.now c.args.among.now.known.now.entries in
    adds_filled ws s c.args.expr.now.place c.len-at.result c.in_ok-found.field-0 (kept ws s)
    c.args.found.now (record { nodes = c.push.new.self; faults = c.args.found.now.faults; made = c.args.found.now.made }) c.look_form.new.found _
    (search rules) (search rules) refl c.in_ok-number.ensures.found refl
    (c.in_ok-found.ensures ∙ c.fit.ensures.typ s.measured.part.typ (widths_of ws s.measured) c.in_ok-number.ensures.seen) refl refl

pub look_form-of_pair-requires-clause-first : goal.look_form-of_pair-requires-clause-first
look_form-of_pair-requires-clause-first t c =
    within c.look_among-in-Mux.new.choices.seen.items c.in_ok-first-in-Mux.first _ _ (c.in_ok-second-in-Mux.ensures.keeps c.in_ok-first-in-Mux.first _ _ c.in_ok-first-in-Mux.ensures.seen)

pub look_form-of_pair-requires-clause-second : goal.look_form-of_pair-requires-clause-second
look_form-of_pair-requires-clause-second t c =
    within c.look_among-in-Mux.new.choices.seen.items c.in_ok-second-in-Mux.second _ _ c.in_ok-second-in-Mux.ensures.seen

pub look_form-fit-requires-in-Mux : goal.look_form-fit-requires-in-Mux
look_form-fit-requires-in-Mux t c =
    within c.of_pair.new.self.seen.items c.in_ok-number-in-Mux.number _ _
    (c.in_ok-number-in-Mux.ensures.seen c.args.among.now.widths.now c.args.among.now.known.now.entries _ _ _ _ c.in_ok-second-in-Mux.ensures.held
    (c.in_ok-second-in-Mux.ensures.keeps c.in_ok-first-in-Mux.first _ _ c.in_ok-first-in-Mux.ensures.seen) c.in_ok-second-in-Mux.ensures.seen)

pub look_form-returns-in_ok-push_where-in-Ref-clause-seen : goal.look_form-returns-in_ok-push_where-in-Ref-clause-seen
look_form-returns-in_ok-push_where-in-Ref-clause-seen t c =
    reference_seen c.args.among.now.widths.now c.args.expr.now c.in-Ref.name c.in-Ref.suffixes c.as_slice-suffixes.result.now c.args.among.now.known.now.entries c.of_reference.new.self.seen.items c.in_ok-number-in-Ref.number
    c.in-Ref.is (search rules) c.in_ok-number-in-Ref.ensures.seen

pub look_form-returns-in_ok-push_where-in-Ref-clause-found : goal.look_form-returns-in_ok-push_where-in-Ref-clause-found
look_form-returns-in_ok-push_where-in-Ref-clause-found t c =
    let ws = c.args.among.now.widths.now in
    let known = c.args.among.now.known.now.entries in
    let s = survey ws c.args.expr.now known in
    let seen = reference_seen ws c.args.expr.now c.in-Ref.name c.in-Ref.suffixes c.as_slice-suffixes.result.now known c.of_reference.new.self.seen.items c.in_ok-number-in-Ref.number
    c.in-Ref.is (search rules) c.in_ok-number-in-Ref.ensures.seen in
    reference_adds ws c.args.expr.now c.in-Ref.name c.in-Ref.suffixes c.as_slice-suffixes.result.now known c.fit.result.now.is_over c.args.found.now c.survey_indexes.new.found _
    c.in-Ref.is (search rules) (c.fit.ensures.over s.measured.part.typ (widths_of ws s.measured) seen) c.in_ok-survey_indexes-in-Ref.ensures refl c.in_ok-push_where-in-Ref.ensures

pub look_form-returns-in_ok-push_condition-in-Mux-clause-keeps : goal.look_form-returns-in_ok-push_condition-in-Mux-clause-keeps
look_form-returns-in_ok-push_condition-in-Mux-clause-keeps t c = λ n typ ws h.
    c.in_ok-number-in-Mux.ensures.keeps n typ ws (c.in_ok-second-in-Mux.ensures.keeps n typ ws (c.in_ok-first-in-Mux.ensures.keeps n typ ws h))

pub look_form-returns-in_ok-push_condition-in-Mux-clause-seen : goal.look_form-returns-in_ok-push_condition-in-Mux-clause-seen
look_form-returns-in_ok-push_condition-in-Mux-clause-seen t c =
    let ws = c.args.among.now.widths.now in
    let known = c.args.among.now.known.now.entries in
    let three = three_items c.as_slice.result.now c.condition-item.result c.first-item.result c.second-item.result c.in-len3.len_at_least c.in-len3.len_below c.condition-item.is c.first-item.is c.second-item.is in
    choice_seen ws c.args.expr.now c.condition-item.result c.first-item.result c.second-item.result c.in-Mux.operands c.as_slice.result.now known c.of_pair.new.self.seen.items c.in_ok-number-in-Mux.number
    c.in-Mux.is (search rules) three
    (c.in_ok-number-in-Mux.ensures.seen ws known _ _ _ _ c.in_ok-second-in-Mux.ensures.held
    (c.in_ok-second-in-Mux.ensures.keeps c.in_ok-first-in-Mux.first _ _ c.in_ok-first-in-Mux.ensures.seen) c.in_ok-second-in-Mux.ensures.seen)

pub look_form-returns-in_ok-push_condition-in-Mux-clause-found : goal.look_form-returns-in_ok-push_condition-in-Mux-clause-found
look_form-returns-in_ok-push_condition-in-Mux-clause-found t c =
    let ws = c.args.among.now.widths.now in
    let known = c.args.among.now.known.now.entries in
    let s = survey ws c.args.expr.now known in
    let three = three_items c.as_slice.result.now c.condition-item.result c.first-item.result c.second-item.result c.in-len3.len_at_least c.in-len3.len_below c.condition-item.is c.first-item.is c.second-item.is in
    let seen = choice_seen ws c.args.expr.now c.condition-item.result c.first-item.result c.second-item.result c.in-Mux.operands c.as_slice.result.now known c.of_pair.new.self.seen.items c.in_ok-number-in-Mux.number
    c.in-Mux.is (search rules) three
    (c.in_ok-number-in-Mux.ensures.seen ws known _ _ _ _ c.in_ok-second-in-Mux.ensures.held
    (c.in_ok-second-in-Mux.ensures.keeps c.in_ok-first-in-Mux.first _ _ c.in_ok-first-in-Mux.ensures.seen) c.in_ok-second-in-Mux.ensures.seen) in
    choice_adds ws c.args.expr.now c.condition-item.result c.first-item.result c.second-item.result c.in-Mux.operands c.as_slice.result.now known c.fit-in-Mux.result.now.is_over c.in_ok-asked-in-Mux.asked
    c.as_slice-in-Mux.result.now c.push_where-in-Mux.new.faults.items c.args.found.now c.survey_expr.new.found c.look_among.new.found c.look_among-in-Mux.new.found _
    c.in-Mux.is (search rules) three (c.fit-in-Mux.ensures.over s.measured.part.typ (widths_of ws s.measured) seen) c.in_ok-asked-in-Mux.ensures.is c.as_slice-in-Mux.ensures
    c.in_ok-asked-in-Mux.ensures.found c.in_ok-first-in-Mux.ensures.found c.in_ok-second-in-Mux.ensures.found refl c.in_ok-push_where-in-Mux.ensures c.in_ok-push_condition-in-Mux.ensures
