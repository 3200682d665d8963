use Rattle.std.proofs.Common.{◌≡◌, ◌≤◌, ◌<◌, ◌+◌, ◌++◌, ◌∷◌, [], ℕ, List, length, vec_capacity, vec_items, get_or, subst, sym, ap, ◌∙◌, arith}
use Rattle.flat_code.specs.declared.code.Code.{Code}
use Rattle.flat_code.specs.declared.running.Effects.{Effects}
use Rattle.flat_code.specs.Codes.{most_publications, most_outputs}
use Rattle.crew_workers.proofs.Spreads.{pair_push, length_push}
use Rattle.crew_workers.proofs.turns.all_effects.Goals as goal

pub loop-k-preserved : goal.loop-k-preserved
loop-k-preserved c = let i = c.loop-k.invariant in let items = c.in_ok-push.ensures.items in let made = c.in_ok-effects-2.ensures in record {
  many = ap length items ∙ length_push _ _ ∙ ap (λ n. n + 1) i.many;
  publications = λ j d e lt. subst (λ (l : List Effects). most_publications (get_or c.args.codes.now j d) ≤ vec_capacity (get_or l j e).publications) (sym items)
      (pair_push (λ (x : Code) (y : Effects). most_publications x ≤ vec_capacity y.publications) c.args.codes.now _ _ c.index-codes-k.result _ i.many c.loop-k-test.true c.index-codes-k.is made.publications i.publications j d e lt);
  outputs = λ j d e lt. subst (λ (l : List Effects). most_outputs (get_or c.args.codes.now j d) ≤ vec_capacity (get_or l j e).outputs) (sym items)
      (pair_push (λ (x : Code) (y : Effects). most_outputs x ≤ vec_capacity y.outputs) c.args.codes.now _ _ c.index-codes-k.result _ i.many c.loop-k-test.true c.index-codes-k.is made.outputs i.outputs j d e lt);
}

pub returns : goal.returns
returns c = let i = c.loop-k.invariant in let test = c.loop-k-test.false in let end = c.loop-k.auto.k-end in let many = i.many in record {
  many = omega (arith, many, test, end);
  publications = λ k d e h. i.publications k d e (omega (arith, h, test));
  outputs = λ k d e h. i.outputs k d e (omega (arith, h, test));
}
