use Rattle.std.proofs.Common.{◌<◌, [], length, refl, subst, sym, ◌∙◌, below_more}
use Rattle.phase_core.specs.Script.{IsPart}
use Rattle.phase_core.proofs.Shapes.{untrue, any_default, own_all}
use Rattle.phase_core.proofs.shape.owns_round.Goals as goal

pub returns-then-not-owns_part : goal.returns-then-not-owns_part
returns-then-not-owns_part c = let i = c.loop-worker.worker in let lt : i < length c.args.round.now = c.loop-worker-test.true in
    let is = any_default c.args.round.now i c.index-round-worker.result [] lt c.index-round-worker.is in
    (λ f. absurd (untrue f), λ all. c.if-not-owns_part.ensures.1 (subst (IsPart c.args.script.now i) (sym (c.as_slice.ensures ∙ is)) (all i)))

pub loop-worker-preserved : goal.loop-worker-preserved
loop-worker-preserved c = let i = c.loop-worker.worker in let lt : i < length c.args.round.now = c.loop-worker-test.true in
    let is = any_default c.args.round.now i c.index-round-worker.result [] lt c.index-round-worker.is in
    below_more _ _ c.loop-worker.invariant (subst (IsPart c.args.script.now i) (c.as_slice.ensures ∙ is) (c.if-not-owns_part.ensures.0 refl))

pub returns : goal.returns
returns c = (λ t. own_all c.args.script.now c.args.round.now c.loop-worker.worker c.loop-worker-test.false c.loop-worker.invariant, λ all. refl)
