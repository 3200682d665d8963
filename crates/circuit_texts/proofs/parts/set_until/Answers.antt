use Rattle.std.proofs.Common.{◌≡◌, ◌≤◌, get_or, ap, ◌∙◌, subst, arith, ⊎_elim}
use Rattle.std.specs.Prelude.{length, slice_set}
use Rattle.std.proofs.lemmas.Bool.{cases_lt}
use Rattle.std.proofs.lemmas.Bool.Decides.{nat_tests}
use Rattle.std.proofs.lemmas.List.{length-set, get_or_read}
use Rattle.stimulus.specs.declared.stimulus.Setting.{Setting}
use Rattle.circuit_texts.proofs.Rowing.{row_next}
use Rattle.circuit_texts.proofs.parts.set_until.Goals as goal

pub loop-at-preserved : goal.loop-at-preserved
loop-at-preserved c =
    let settings = c.args.settings.now in
    let at = c.loop-at.at in
    let lt = c.loop-at-test.true in
    let s = c.index-settings-at-in-loop-at.result in
    let t = c.index-settings-at.result in
    let early : t.cycle ≤ c.args.cycle = grind (arith, nat_tests, c.if-settings-at.true) in
    record {
      set = λ start h. c.set.ensures ∙ ap (λ r. slice_set r s.input s.value) (c.loop-at.invariant.set start h) ∙ row_next start settings at s lt c.index-settings-at-in-loop-at.is;
      long = ap length c.set.ensures ∙ length-set c.loop-at.row s.input s.value ∙ c.loop-at.invariant.long;
      onward = omega arith;
      within = omega arith;
      passed = λ k d ge below.
          ⊎_elim (λ less. c.loop-at.invariant.passed k d ge less)
          (λ le. let here : at ≡ k = omega (arith, below, le) in
          let same = ap (λ (x : Setting). x.cycle) (get_or_read settings at t lt c.index-settings-at.is d) in
          subst (λ n. (get_or settings n d).cycle ≤ c.args.cycle) here (omega (arith, same, early)))
          (cases_lt k at);
    }
