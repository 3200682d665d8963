use Rattle.std.proofs.Common.{◌≡◌, ◌≤◌, ◌<◌, ◌-◌, ◌+◌, ◌++◌, ℕ, List, take, sym, ◌∙◌, ap, arith, rules, length, refl}
use Rattle.std.proofs.Math.Seq.{take-length}
use Rattle.ground_net.specs.declared.circuit.GroundStmt.{the_lemmas}
use Rattle.expand_whens.specs.Ways.{refusal, refusals}
use Rattle.ground_net.specs.declared.circuit.GroundArm.{GroundArm}
use Rattle.expand_whens.specs.declared.guard.Asked.{Asked}
use Rattle.expand_whens.proofs.Covers.{marks_more, unmarked}
use Rattle.expand_whens.proofs.Blocks.{walks_next, uncovered_ones}
use Rattle.expand_whens.proofs.Arms.{walks_when, arms_begin, arms_step, arms_end, refusals_push}
use Rattle.expand_whens.proofs.Tests.{left_true}
use Rattle.expand_whens.proofs.ShapedWays.{shapes_none, block_next_shapes, arms_next_shapes, arms_end_shapes, when_shapes}
use Rattle.expand_whens.proofs.walk.+walk.Goals as goal

pub walk_block-walk_statement-requires : goal.walk_block-walk_statement-requires
walk_block-walk_statement-requires t c = (search (rules, the_lemmas, c.index-block-left.is), c.loop-left.invariant.marks.counted ∙ (c.requires ∙ sym c.loop-left.invariant.walks.counted))

pub walk_block-loop-left-preserved : goal.walk_block-loop-left-preserved
walk_block-loop-left-preserved t c =
    let step : c.loop-left.left ≡ c.loop-left.left - 1 + 1 = omega (arith, c.loop-left-test.true) in
    let below : c.loop-left.left - 1 < length c.args.block.now = omega (arith, c.loop-left-test.true, c.loop-left.invariant.within) in
    let less : c.loop-left.left - 1 ≤ length c.args.block.now = omega (arith, below) in
    let mark = rw (c.as_slice.ensures.value, c.in_ok-newly.ensures.covered) at c.mark.ensures in
    let early = rw c.loop-left.invariant.asked at c.in_ok-newly.ensures.walks in
    record {
      within = less;
      asked = c.in_ok-newly.ensures.asked ∙ c.loop-left.invariant.asked;
      marks = rw (c.in_ok-extend_from_slice.ensures.items, c.as_slice-in-loop-left.ensures.value) (marks_more c.loop-left.invariant.marks mark);
      walks = rw (c.in_ok-extend_from_slice.ensures.items, c.as_slice-in-loop-left.ensures.value)
          (walks_next _ c.args.block.now (c.loop-left.left - 1) c.loop-left.left c.index-block-left.result _ _ _ _ _ _ _ step below c.index-block-left.is c.loop-left.invariant.walks c.loop-left.invariant.marks early);
      shapes = block_next_shapes _ c.args.block.now (c.loop-left.left - 1) c.loop-left.left c.index-block-left.result _ _ _ step below c.index-block-left.is c.loop-left.invariant.shapes (rw c.loop-left.invariant.asked at c.in_ok-newly.ensures.shapes);
    }

pub walk_block-returns-clause-covered : goal.walk_block-returns-clause-covered
walk_block-returns-clause-covered t c =
    unmarked c.loop-left.invariant.marks (rw c.as_slice-2.ensures.value at c.mark-2.ensures) (uncovered_ones _ _ _ _ _ _ c.loop-left.invariant.walks)

pub walk_statement-returns-in_ok-newly-in-When-clause-walks : goal.walk_statement-returns-in_ok-newly-in-When-clause-walks
walk_statement-returns-in_ok-newly-in-When-clause-walks t c =
    let refused = rw c.as_slice-in-When.ensures at c.in_ok-refuse-in-When.ensures in
    let others = rw c.as_slice-in-When-2.ensures at c.in_ok-certain-in-When.ensures.walks in
    let arms = c.in_ok-newly-in-When.ensures.walks c.args.asked.now.items c.in-When.first c.in-When.other c.args.ways.now.items (rw c.as_slice-in-When-3.ensures (c.in_ok-certain-in-When.ensures.asked ∙ refused))
    (rw (c.in_ok-certain-in-When.ensures.asked, c.in_ok-certain-in-When.ensures.covered) others) in
    rw c.in-When.is (walks_when _ _ _ _ _ _ _ _ (rw (c.as_slice-in-When-3.ensures, c.in_ok-certain-in-When.ensures.covered) at arms))

pub walk_arms-loop-left-init : goal.walk_arms-loop-left-init
walk_arms-loop-left-init t c = record {
  within = omega arith;
  same = refl;
  counted = refl;
  uncovered = c.requires.uncovered;
  asked = λ before first e. rw (take-length c.args.arms.now) e;
  walks = λ before first other old e w. arms_begin _ before first _ other _ old _ _ e w;
  shapes = λ before first e. shapes_none _ _ _;
}

pub walk_arms-loop-left-preserved : goal.walk_arms-loop-left-preserved
walk_arms-loop-left-preserved t c =
    let step : c.loop-left.left ≡ c.loop-left.left - 1 + 1 = omega (arith, c.loop-left-test.true) in
    let below : c.loop-left.left - 1 < length c.args.arms.now = omega (arith, c.loop-left-test.true, c.loop-left.invariant.within) in
    let less : c.loop-left.left - 1 ≤ length c.args.arms.now = omega (arith, below) in
    let both = rw (c.as_slice-in-loop-left.ensures.value, c.as_slice-in-loop-left-2.ensures.value) at c.in_ok-all.ensures.both in
    let last = λ (before : List Asked) (first : ℕ) (e : c.args.asked.now.items ≡ before ++ refusals first c.args.arms.now). c.in_ok-accept_last.ensures (before ++ refusals first (take (c.loop-left.left - 1) c.args.arms.now)) (refusal first c.index-arms-left.result)
    (c.loop-left.invariant.asked before first e ∙ refusals_push before first c.args.arms.now (c.loop-left.left - 1) c.loop-left.left c.index-arms-left.result step below c.index-arms-left.is) in
    record {
      within = less;
      same = c.in_ok-all.ensures.covered ∙ (c.in_ok-newly.ensures.covered ∙ c.loop-left.invariant.same);
      counted = c.in_ok-newly.ensures.walks.counted ∙ c.loop-left.invariant.counted;
      uncovered = λ leaf h. c.loop-left.invariant.uncovered leaf (left_true _ _ (sym (both leaf) ∙ h));
      asked = λ before first e. c.forget_last.ensures _ _ (c.in_ok-newly.ensures.asked ∙ last before first e);
      walks = λ before first other old e w. arms_step before _ first c.args.arms.now (c.loop-left.left - 1) c.loop-left.left c.index-arms-left.result _ other _ _ old _ _ _ _ _ step below c.index-arms-left.is (c.as_slice.ensures ∙ sym (ap (λ (a : GroundArm). a.body) c.index-arms-left.is)) c.loop-left.invariant.same
          (c.loop-left.invariant.walks before first other old e w) (last before first e) c.in_ok-newly.ensures.walks both;
      shapes = λ before first e. arms_next_shapes before _ first c.args.arms.now (c.loop-left.left - 1) c.loop-left.left c.index-arms-left.result _ _ _ _ step below c.index-arms-left.is (c.as_slice.ensures ∙ sym (ap (λ (a : GroundArm). a.body) c.index-arms-left.is)) (last before first e) (c.loop-left.invariant.shapes before first e) c.in_ok-newly.ensures.shapes;
    }

pub walk_arms-returns-clause-walks : goal.walk_arms-returns-clause-walks
walk_arms-returns-clause-walks t c =
    λ before first other old e w. arms_end before first _ _ other _ old _ _ (omega (arith, c.loop-left-test.false)) (c.loop-left.invariant.walks before first other old e w)

pub walk_statement-returns-in_ok-newly-in-When-clause-shapes : goal.walk_statement-returns-in_ok-newly-in-When-clause-shapes
walk_statement-returns-in_ok-newly-in-When-clause-shapes t c =
    let refused = rw c.as_slice-in-When.ensures at c.in_ok-refuse-in-When.ensures in
    let others = rw (c.as_slice-in-When-2.ensures, refused) at c.in_ok-certain-in-When.ensures.shapes in
    let arms = c.in_ok-newly-in-When.ensures.shapes c.args.asked.now.items c.in-When.first (rw c.as_slice-in-When-3.ensures (c.in_ok-certain-in-When.ensures.asked ∙ refused)) in
    rw c.in-When.is (when_shapes _ _ _ _ _ _ _ others (rw c.as_slice-in-When-3.ensures at arms))

pub walk_arms-returns-clause-shapes : goal.walk_arms-returns-clause-shapes
walk_arms-returns-clause-shapes t c =
    λ before first e. arms_end_shapes before first _ _ _ _ (omega (arith, c.loop-left-test.false)) (c.loop-left.invariant.shapes before first e)
