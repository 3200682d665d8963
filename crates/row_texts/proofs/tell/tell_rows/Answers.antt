use Rattle.std.proofs.Common.{◌≡◌, ◌+◌, ◌<◌, suc, false, [], ◌++◌, length, take, drop, get_or, sym, subst, ap, ◌∙◌, arith, if◌then◌else◌, ◌||◌}
use Rattle.std.specs.Prelude.{IfSome}
use Rattle.std.specs.List.{list_any}
use Rattle.std.proofs.lemmas.Grind.{common_steps}
use Rattle.std.proofs.lemmas.List.{get_or_default}
use Rattle.row_texts.specs.Tellings.{last_from, told_of, rows_text}
use Rattle.row_texts.proofs.Texts.{last_all, text_next, told_next, any_next}
use Rattle.row_texts.proofs.tell.tell_rows.Goals as goal

pub loop-told-preserved : goal.loop-told-preserved
loop-told-preserved g c =
    let t = g.T.Teller.tells c.args.teller.now in
    let cycle = c.args.spot.now.cycle in
    let before = c.args.spot.now.before in
    let rows = c.args.rows.now in
    let k = c.loop-told.told in
    let lt : k < length rows = c.loop-told-test.true in
    let on : c.loop-told.ended ≡ false = grind (arith, common_steps, c.if-not-ended.true) in
    let y : suc k ≡ k + 1 = omega arith in
    let row_is = c.index-rows-told.is ∙ get_or_default rows k _ [] lt in
    let own = t.row (cycle + k) (last_from before (take k rows)) (get_or rows k []) in
    let ends_is = c.ends-ended.ensures ∙ ap t.ends row_is in
    let seen = told_next t cycle before rows k lt (subst (λ b. told_of t.ends rows ≡ take k rows ++ (if b then [] else told_of t.ends (drop k rows))) on c.loop-told.invariant.seen) in
    let any = any_next t cycle before rows k lt (subst (λ b. list_any t.ends rows ≡ (b || list_any t.ends (drop k rows))) on c.loop-told.invariant.any) in
    record {
      within = omega (arith, lt);
      text = c.in_ok-push_told.ensures ∙ (ap (λ a. a ++ own) c.loop-told.invariant.text ∙ (sym (text_next t cycle before rows k lt) ∙ ap (λ n. rows_text t cycle before (take n rows)) y));
      seen = subst (λ b. told_of t.ends rows ≡ take (k + 1) rows ++ (if b then [] else told_of t.ends (drop (k + 1) rows))) (sym ends_is)
          (subst (λ n. told_of t.ends rows ≡ take n rows ++ (if t.ends (get_or rows k []) then [] else told_of t.ends (drop n rows))) y seen);
      any = subst (λ b. list_any t.ends rows ≡ (b || list_any t.ends (drop (k + 1) rows))) (sym ends_is)
          (subst (λ n. list_any t.ends rows ≡ (t.ends (get_or rows k []) || list_any t.ends (drop n rows))) y any);
    }

pub returns-clause-read : goal.returns-clause-read
returns-clause-read g c =
    subst (λ o. IfSome o (g.T.Teller.reads c.args.teller.now)) (sym (c.in_ok-before.ensures ∙ c.row_before.ensures))
    (last_all (g.T.Teller.reads c.args.teller.now) c.args.spot.now.before c.args.rows.now c.requires.before c.requires.reads c.loop-told.told)
