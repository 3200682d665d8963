use Rattle.std.proofs.Common.{rules, refl, sym, ◌∙◌, ◌≡◌, subst, IfOk, OnOk}
use Rattle.std.proofs.lemmas.Result.{on_ok_weaker}
use Rattle.width_fit.specs.Judging.{survey}
use Rattle.width_fit.specs.Surveys.{kept, AddsBelow}
use Rattle.width_fit.proofs.Surveys.{survey-reference, survey-literal, adds_more, kept_more, adds_filled, prim_is, prim_adds, mux_is, mux_adds, literal_below, reference_is, reference_below}
use Rattle.width_fit.proofs.survey.+survey.Goals as goal

pub survey_all-loop-expr-preserved : goal.survey_all-loop-expr-preserved
survey_all-loop-expr-preserved t c = record {
  are = kept_more c.args.widths.now c.args.known.now.entries c.args.exprs.now c.loop-expr.expr-index c.expr-item.result c.loop-expr.all.items c.push.new.self.items c.in_ok-survey_expr.field-0
      (search rules) (search rules) c.loop-expr.invariant.are c.in_ok-survey_expr.ensures.is c.in_ok-push.ensures.items;
  found = adds_more c.args.widths.now c.args.known.now.entries c.args.exprs.now c.loop-expr.expr-index c.expr-item.result (search rules) (search rules) c.loop-expr.invariant.found c.in_ok-survey_expr.ensures.found;
}

pub survey_expr-returns-clause-found : goal.survey_expr-returns-clause-found
survey_expr-returns-clause-found t c =
    adds_filled c.args.widths.now (survey c.args.widths.now c.args.expr.now c.args.known.now.entries) c.args.expr.now.place c.len-at.result c.in_ok-fitted.fitted c.in_ok-surveyed.surveyed
    c.args.found.now (record { nodes = c.push.new.self; faults = c.args.found.now.faults; made = c.args.found.now.made }) c.survey_form.new.found _
    (search rules) (search rules) refl c.in_ok-surveyed.ensures.found c.in_ok-surveyed.ensures.is (search rules) refl refl

pub survey_form-returns-in-Ref-clause-is : goal.survey_form-returns-in-Ref-clause-is
survey_form-returns-in-Ref-clause-is t c =
    let e = survey-reference c.args.widths.now c.args.expr.now c.in-Ref.name c.in-Ref.suffixes c.as_slice-suffixes.result.now c.args.known.now.entries c.in-Ref.is (search rules) in
    subst (λ x. IfOk c.survey_reference.result (λ s. s ≡ kept c.args.widths.now x)) (sym e) c.survey_reference.ensures.is

pub survey_form-returns-in-Ref-clause-found : goal.survey_form-returns-in-Ref-clause-found
survey_form-returns-in-Ref-clause-found t c =
    let e = survey-reference c.args.widths.now c.args.expr.now c.in-Ref.name c.in-Ref.suffixes c.as_slice-suffixes.result.now c.args.known.now.entries c.in-Ref.is (search rules) in
    subst (λ x. OnOk c.survey_reference.result (AddsBelow c.args.widths.now x c.args.found.now c.survey_reference.new.found)) (sym e) c.survey_reference.ensures.found

pub survey_form-returns-in-Literal-clause-is : goal.survey_form-returns-in-Literal-clause-is
survey_form-returns-in-Literal-clause-is t c =
    let e = survey-literal c.args.widths.now c.args.expr.now c.in-Literal.kind c.in-Literal.width c.in-Literal.number c.args.known.now.entries c.in-Literal.is in
    subst (λ x. IfOk c.survey_literal.result (λ s. s ≡ kept c.args.widths.now x)) (sym e) (c.survey_literal.ensures.is c.args.widths.now)

pub survey_form-returns-in-Literal-clause-found : goal.survey_form-returns-in-Literal-clause-found
survey_form-returns-in-Literal-clause-found t c =
    on_ok_weaker c.survey_literal.result
    (literal_below c.args.widths.now c.args.expr.now c.in-Literal.kind c.in-Literal.width c.in-Literal.number c.args.known.now.entries c.args.found.now _ c.in-Literal.is refl)
    (c.survey_literal.ensures.faults c.args.widths.now)

pub survey_form-returns-in_ok-operands-in-Prim-clause-is : goal.survey_form-returns-in_ok-operands-in-Prim-clause-is
survey_form-returns-in_ok-operands-in-Prim-clause-is t c =
    let e = prim_is c.args.widths.now c.args.expr.now c.in-Prim.prim c.in-Prim.operands c.in-Prim.params c.as_slice-params.result.now c.args.known.now.entries c.as_slice-in-Prim.result.now
    c.in-Prim.is (search rules) (c.as_slice-in-Prim.ensures.value ∙ rw c.as_slice.ensures at c.in_ok-operands-in-Prim.ensures.are) in
    subst (λ x. IfOk c.survey_operation.result (λ s. s ≡ x)) e c.survey_operation.ensures.is

pub survey_form-returns-in_ok-operands-in-Prim-clause-found : goal.survey_form-returns-in_ok-operands-in-Prim-clause-found
survey_form-returns-in_ok-operands-in-Prim-clause-found t c =
    on_ok_weaker c.survey_operation.result
    (prim_adds c.args.widths.now c.args.expr.now c.in-Prim.prim c.in-Prim.operands c.in-Prim.params c.as_slice-params.result.now c.args.known.now.entries c.as_slice-in-Prim.result.now
    c.args.found.now c.survey_all.new.found _ c.in-Prim.is (search rules) (c.as_slice-in-Prim.ensures.value ∙ rw c.as_slice.ensures at c.in_ok-operands-in-Prim.ensures.are)
    (rw c.as_slice.ensures at c.in_ok-operands-in-Prim.ensures.found) refl)
    c.survey_operation.ensures.faults

pub survey_form-returns-in_ok-operands-in-Mux-clause-is : goal.survey_form-returns-in_ok-operands-in-Mux-clause-is
survey_form-returns-in_ok-operands-in-Mux-clause-is t c =
    let e = mux_is c.args.widths.now c.args.expr.now c.in-Mux.operands c.args.known.now.entries c.as_slice-in-Mux-2.result.now
    c.in-Mux.is (c.as_slice-in-Mux-2.ensures.value ∙ rw c.as_slice-in-Mux.ensures at c.in_ok-operands-in-Mux.ensures.are) in
    subst (λ x. IfOk c.survey_choice.result (λ s. s ≡ x)) e c.survey_choice.ensures.is

pub survey_form-returns-in_ok-operands-in-Mux-clause-found : goal.survey_form-returns-in_ok-operands-in-Mux-clause-found
survey_form-returns-in_ok-operands-in-Mux-clause-found t c =
    on_ok_weaker c.survey_choice.result
    (mux_adds c.args.widths.now c.args.expr.now c.in-Mux.operands c.args.known.now.entries c.as_slice-in-Mux-2.result.now
    c.args.found.now c.survey_all-in-Mux.new.found _ c.in-Mux.is (c.as_slice-in-Mux-2.ensures.value ∙ rw c.as_slice-in-Mux.ensures at c.in_ok-operands-in-Mux.ensures.are)
    (rw c.as_slice-in-Mux.ensures at c.in_ok-operands-in-Mux.ensures.found) refl)
    c.survey_choice.ensures.faults

pub survey_reference-returns-clause-is : goal.survey_reference-returns-clause-is
survey_reference-returns-clause-is t c = c.in_ok-surveyed.ensures ∙ reference_is c.args.widths.now c.args.known.now.entries c.args.place c.args.name c.args.suffixes.now

pub survey_reference-returns-clause-found : goal.survey_reference-returns-clause-found
survey_reference-returns-clause-found t c =
    reference_below c.args.widths.now c.args.known.now.entries c.args.place c.args.name c.args.suffixes.now c.args.found.now c.survey_indexes.new.found _ c.in_ok-surveyed.surveyed
    c.in_ok-survey_indexes.ensures refl (c.in_ok-surveyed.ensures ∙ reference_is c.args.widths.now c.args.known.now.entries c.args.place c.args.name c.args.suffixes.now) (search rules)
