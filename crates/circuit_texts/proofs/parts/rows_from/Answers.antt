use Rattle.std.proofs.Common.{◌≡◌, ℕ, ◌-◌, ◌<◌, ◌≤◌, List, ◌∷◌, ◌++◌, [], length, take, get_or, sym, ap, ◌∙◌, arith, ⊎_elim}
use Rattle.std.proofs.lemmas.Bool.{cases_lt}
use Rattle.bit_words.specs.declared.value.Value.{Value}
use Rattle.stimulus.specs.declared.stimulus.Setting.{Setting}
use Rattle.circuit_texts.specs.StimulusParts.{rows_from, row_from}
use Rattle.circuit_texts.proofs.Rowing.{row_start, row_long, row_is, all_later, inputs_within, values_long, rows_more}
use Rattle.circuit_texts.proofs.parts.rows_from.Goals as goal

pub loop-cycle-init : goal.loop-cycle-init
loop-cycle-init c =
    let none : c.args.span.first - c.args.span.first ≡ 0 = omega arith in
    record {
      rows = c.new-rows.ensures ∙ sym (ap (rows_from c.args.start.now c.args.stimulus.now.settings c.args.span.first) none);
      row = c.in_ok-row.ensures ∙ c.as_slice.ensures ∙ row_start c.args.start.now;
      within = omega arith;
      passed = λ k d lt. absurd (omega (arith, lt));
    }

pub set_until-next-requires-clause-inputs : goal.set_until-next-requires-clause-inputs
set_until-next-requires-clause-inputs c =
    let ports = c.args.ports.now in
    let start = c.args.start.now in
    let settings = c.args.stimulus.now.settings in
    rw c.as_slice-settings.ensures (inputs_within ports settings (length c.loop-cycle.row) (ap length c.loop-cycle.invariant.row ∙ row_long start (take c.loop-cycle.next settings) ∙ values_long ports.inputs start c.requires.start) c.requires.formed.of_inputs)

pub set_until-next-requires-clause-within : goal.set_until-next-requires-clause-within
set_until-next-requires-clause-within c = rw c.as_slice-settings.ensures c.loop-cycle.invariant.within

pub loop-cycle-preserved : goal.loop-cycle-preserved
loop-cycle-preserved c =
    let start = c.args.start.now in
    let settings = c.args.stimulus.now.settings in
    let cycle = c.loop-cycle.cycle in
    let next = c.set_until-next.result in
    let its = rw c.as_slice-settings.ensures at c.set_until-next.ensures.set in
    let within = rw c.as_slice-settings.ensures at c.set_until-next.ensures.within in
    let fresh = rw c.as_slice-settings.ensures at c.set_until-next.ensures.passed in
    let stops = rw c.as_slice-settings.ensures at c.set_until-next.ensures.stops in
    let row = its start c.loop-cycle.invariant.row in
    let passed : (k : ℕ) (d : Setting) → k < next → (get_or settings k d).cycle ≤ cycle =
    λ k d lt. ⊎_elim (λ less. c.loop-cycle.invariant.passed k d less) (λ ge. fresh k d ge lt) (cases_lt k c.loop-cycle.next) in
    let later = all_later settings cycle next c.requires.formed.pairs stops in
    let made : c.in_ok-from_slice.field-0 ≡ row_from start settings cycle =
    c.in_ok-from_slice.ensures ∙ c.as_slice-in-loop-cycle.ensures ∙ row ∙ sym (row_is start settings cycle next within passed later) in
    record {
      rows = c.in_ok-push.ensures.ok ∙ ap (λ (r : List Value). c.loop-cycle.rows ++ r ∷ []) made ∙ ap (λ (rs : List (List Value)). rs ++ row_from start settings cycle ∷ []) c.loop-cycle.invariant.rows
          ∙ rows_more start settings c.args.span.first cycle c.loop-cycle.auto.cycle;
      row = row;
      within = within;
      passed = λ k d lt. let p = passed k d lt in omega (arith, p);
    }

pub returns : goal.returns
returns c =
    let count : c.loop-cycle.cycle - c.args.span.first ≡ c.args.span.count = omega (arith, c.loop-cycle-test.false, c.loop-cycle.auto.cycle-end) in
    c.loop-cycle.invariant.rows ∙ ap (rows_from c.args.start.now c.args.stimulus.now.settings c.args.span.first) count
