use Rattle.std.proofs.Common.{◌<◌, ◌≤◌, [], length, get_or, refl, subst, sym, ap, ◌∙◌, arith, below_more}
use Rattle.phase_core.specs.Script.{OwnRound}
use Rattle.phase_core.proofs.Shapes.{untrue, any_default}
use Rattle.phase_core.proofs.shape.owns_rounds.Goals as goal

pub returns-then-not-owns_round : goal.returns-then-not-owns_round
returns-then-not-owns_round c = let i = c.loop-cycle.cycle in let lt : i < length c.as_slice-rounds.result.now = c.loop-cycle-test.true in
    let is = c.as_slice-round.ensures ∙ any_default c.as_slice-rounds.result.now i c.index-rounds-cycle.result [] lt c.index-rounds-cycle.is ∙ ap (λ l. get_or l i []) c.as_slice-rounds.ensures in
    (λ f. absurd (untrue f), λ all. c.if-not-owns_round.ensures.1 (subst (OwnRound c.args.script.now) (sym is) (all i (subst (λ l. i < length l) c.as_slice-rounds.ensures lt)).1))

pub loop-cycle-preserved : goal.loop-cycle-preserved
loop-cycle-preserved c = let i = c.loop-cycle.cycle in let lt : i < length c.as_slice-rounds.result.now = c.loop-cycle-test.true in
    let is = c.as_slice-round.ensures ∙ any_default c.as_slice-rounds.result.now i c.index-rounds-cycle.result [] lt c.index-rounds-cycle.is ∙ ap (λ l. get_or l i []) c.as_slice-rounds.ensures in
    below_more _ _ c.loop-cycle.invariant (ap length (sym is) ∙ c.if-round-script.false, subst (OwnRound c.args.script.now) is (c.if-not-owns_round.ensures.0 refl))

pub returns : goal.returns
returns c = let end : length c.as_slice-rounds.result.now ≤ c.loop-cycle.cycle = c.loop-cycle-test.false in let long = ap length c.as_slice-rounds.ensures in
    (λ t k h. c.loop-cycle.invariant k (omega (arith, end, long, h)), λ all. refl)
