use Rattle.std.proofs.Common.{◌≡◌, ◌+◌, ◌-◌, ◌<◌, length, slice_index, refl, sym, subst, ◌∙◌, arith}
use Rattle.std.specs.List.{All}
use Rattle.cone_cutter.specs.Marks.{Spreads, HandsOn}
use Rattle.cone_cutter.proofs.Lists.{stands}
use Rattle.cone_cutter.proofs.Walks.{row_below, row_is}
use Rattle.cone_cutter.proofs.Marks.{hands_begin, hands_more, hands_end}
use Rattle.cone_cutter.proofs.marking.hand_on.Goals as goal

pub back-init : goal.back-init
back-init c = record { hands = hands_begin c.args.reads.now c.args.sequence.now (length c.args.sequence.now) c.args.marks.now (omega arith); within = omega arith }

pub bounds-marks-leaf : goal.bounds-marks-leaf
bounds-marks-leaf c =
    let sequence = c.args.sequence.now in
    let inside = c.requires.order.within _ (stands sequence (slice_index c.args.sequence.now (c.back.place - 1)) (c.back.place - 1) (omega (arith, c.back-test.true, c.back.invariant.within)) refl) in
    omega (arith, inside, c.back.invariant.hands.long, c.requires.long)

pub bounds-reads-leaf : goal.bounds-reads-leaf
bounds-reads-leaf c =
    let sequence = c.args.sequence.now in
    c.requires.order.within _ (stands sequence (slice_index c.args.sequence.now (c.back.place - 1)) (c.back.place - 1) (omega (arith, c.back-test.true, c.back.invariant.within)) refl)

pub spread-requires : goal.spread-requires
spread-requires c =
    let sequence = c.args.sequence.now in
    let x = slice_index c.args.sequence.now (c.back.place - 1) in
    let inside = c.requires.order.within x (stands sequence x (c.back.place - 1) (omega (arith, c.back-test.true, c.back.invariant.within)) refl) in
    let below = row_below c.args.reads.now _ x c.index-reads-leaf.result c.requires.below inside c.index-reads-leaf.is in
    let long : length c.args.reads.now ≡ length c.back.marks = omega (arith, c.back.invariant.hands.long, c.requires.long) in
    subst (λ r. All (λ v. v < length c.back.marks) r) (sym c.as_slice.ensures) (subst (λ n. All (λ v. v < n) c.index-reads-leaf.result) long below)

pub back-preserved : goal.back-preserved
back-preserved c =
    let sequence = c.args.sequence.now in
    let reads = c.args.reads.now in
    let place = c.back.place - 1 in
    let x = slice_index c.args.sequence.now (c.back.place - 1) in
    let lt : c.back.place - 1 < length c.args.sequence.now = omega (arith, c.back-test.true, c.back.invariant.within) in
    let up : c.back.place ≡ c.back.place - 1 + 1 = omega (arith, c.back-test.true) in
    let inside = c.requires.order.within x (stands sequence x place lt refl) in
    let row = c.as_slice.ensures ∙ row_is reads x c.index-reads-leaf.result inside c.index-reads-leaf.is in
    record {
      hands = hands_more reads sequence c.requires.order place x (slice_index c.back.marks x) c.args.marks.now c.back.marks c.spread.new.marks
          (subst (λ n. HandsOn c.args.reads.now c.args.sequence.now n c.args.marks.now c.back.marks) up c.back.invariant.hands) lt refl refl
          (subst (λ r. Spreads r (slice_index c.back.marks (slice_index c.args.sequence.now (c.back.place - 1))) c.back.marks c.spread.new.marks) row c.spread.ensures);
      within = omega (arith, c.back.invariant.within);
    }

pub returns : goal.returns
returns c =
    let none : c.back.place ≡ 0 = omega (arith, c.back-test.false) in
    let hands = subst (λ n. HandsOn c.args.reads.now c.args.sequence.now n c.args.marks.now c.back.marks) none c.back.invariant.hands in
    λ s roots f marked. hands_end c.args.reads.now c.args.sequence.now c.args.marks.now c.back.marks c.requires.order c.requires.long hands s roots f marked
