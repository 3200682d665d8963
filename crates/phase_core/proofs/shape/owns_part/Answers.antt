use Rattle.std.proofs.Common.{◌≡◌, ◌<◌, ◌≤◌, length, get_or, refl, subst, arith, below_more}
use Rattle.phase_core.specs.declared.model.Publication.{Publication}
use Rattle.phase_core.specs.Script.{owner}
use Rattle.phase_core.proofs.Shapes.{untrue}
use Rattle.phase_core.proofs.Lists.{at_index, at-get_or, at_below}
use Rattle.phase_core.proofs.shape.owns_part.Goals as goal

abbrev none_yet : Publication
none_yet = record { word = 0; value = 0 }

pub returns-then-not-owns : goal.returns-then-not-owns
returns-then-not-owns c = let i = c.loop-i.i in let lt : i < length c.args.part.now = c.loop-i-test.true in
    (λ f. absurd (untrue f), λ all. c.if-not-owns.ensures.1 (all.own i (get_or c.args.part.now i none_yet) (at_index c.args.part.now i none_yet lt)))

pub loop-i-preserved : goal.loop-i-preserved
loop-i-preserved c = let i = c.loop-i.i in
    below_more _ _ c.loop-i.invariant
    (λ p e. subst (λ (q : Publication). (q.word < length c.args.script.now.first) × (owner c.args.script.now q.word ≡ c.args.worker)) (at-get_or c.args.part.now i p none_yet e) (c.if-not-owns.ensures.0 refl))

pub returns : goal.returns
returns c = let end : length c.args.part.now ≤ c.loop-i.i = c.loop-i-test.false in (
  λ t. record {
    own = λ k p e. let lt = at_below c.args.part.now k p e in c.loop-i.invariant k (omega arith) p e;
    counted = let fits = c.loop-i in omega arith;
  },
  λ all. refl,
)
