use Rattle.std.proofs.Common.{◌≡◌, ◌-◌, ◌*◌, ◌<◌, ◌≤◌, ℕ, suc, [], ◌∷◌, length, drop, get_or, drop_of_length-le, refl, sym, subst, ap, ◌∙◌, arith, ⊎_elim}
use Rattle.ground_net.specs.Grounds.{element_count}
use Rattle.flat_code.specs.declared.instr.Op.TheVariants as op
use Rattle.flat_code.specs.declared.instr.Location.{Location}
use Rattle.flat_code.specs.Fine.{among, slots_of}
use Rattle.code_draft.specs.Drafts.{Stands, Works}
use Rattle.code_draft.proofs.Growing.{two_among}
use Rattle.code_draft.proofs.Segmenting.{none_among}
use Rattle.code_draft.specs.Places.{on_slots, Finds}
use Rattle.code_draft.proofs.Reaching.{low_written}
use Rattle.code_draft.proofs.Placing.{works_as, code_as, gives_first, constant_computes, adds_one, adds_then, finds_none, finds_more, shapes_long, level_at, slot_among, length_within}
use Rattle.code_draft.proofs.places.place_of.Goals as goal

pub loop-at-init : goal.loop-at-init
loop-at-init c =
    let is = c.args.indices.now in
    let ls = c.args.lengths.now in
    let a = c.args.draft.now in
    let b = c.computed.new.draft in
    let k = c.in_ok-place.place in
    let none : drop (length is) is ≡ [] = drop_of_length-le is (omega arith) in
    let long = shapes_long is ls c.requires.shape in
    let no_lengths : drop (length is) ls ≡ [] = drop_of_length-le ls (omega (arith, long)) in
    let place = c.in_ok-place.ensures.place in
    let slots = c.in_ok-place.ensures.slots in
    record {
      finds = λ draft there.
          let one : Works a b (on_slots op.Constant 0 0 0 0) k = works_as a b _ _ k c.constant.ensures c.in_ok-place.ensures.works draft (constant_computes a 0) in
          subst (λ xs. Finds a b xs (drop (length is) ls) c.args.all k) (sym none)
          (subst (λ xs. Finds a b [] xs c.args.all k) (sym no_lengths) (finds_none a b c.args.all k c.requires.some (gives_first a b (on_slots op.Constant 0 0 0 0) k (λ F. 0) one (λ words inputs F. refl))));
      adds = adds_one a b (on_slots op.Constant 0 0 0 0) (slots_of is) refl (λ j h. none_among j h) (code_as a b _ _ c.constant.ensures c.in_ok-place.ensures.code);
      slots = omega (arith, slots);
      later = omega (arith, place);
      inner = sym (ap element_count no_lengths);
      below = omega (arith, place, slots);
      within = omega arith;
    }

pub bounds-lengths-at : goal.bounds-lengths-at
bounds-lengths-at c =
    let long = shapes_long c.args.indices.now c.args.lengths.now c.requires.shape in
    omega (arith, long, c.loop-at.invariant.within, c.loop-at-test.true)

pub overflow_cast-level : goal.overflow_cast-level
overflow_cast-level c =
    let n = get_or c.args.lengths.now (c.loop-at.at - 1) 0 in
    let lv = level_at c.args.indices.now c.args.lengths.now c.args.all (c.loop-at.at - 1) c.index-indices-at.result n c.requires.shape c.requires.counted c.requires.some
    (omega (arith, c.loop-at.invariant.within, c.loop-at-test.true)) c.index-indices-at.is refl in
    let few = length_within n (element_count (drop (suc (c.loop-at.at - 1)) c.args.lengths.now)) c.args.all lv.some lv.inside in
    omega (arith, few, c.requires.few)

pub overflow_mul-inner : goal.overflow_mul-inner
overflow_mul-inner c =
    let n = get_or c.args.lengths.now (c.loop-at.at - 1) 0 in
    let lv = level_at c.args.indices.now c.args.lengths.now c.args.all (c.loop-at.at - 1) c.index-indices-at.result n c.requires.shape c.requires.counted c.requires.some
    (omega (arith, c.loop-at.invariant.within, c.loop-at-test.true)) c.index-indices-at.is refl in
    let back : suc (c.loop-at.at - 1) ≡ c.loop-at.at = omega (arith, c.loop-at-test.true) in
    let inner : c.loop-at.inner ≡ element_count (drop (suc (c.loop-at.at - 1)) c.args.lengths.now) = c.loop-at.invariant.inner ∙ ap (λ j. element_count (drop j c.args.lengths.now)) (sym back) in
    let inside = lv.inside in
    let same : c.loop-at.inner * n ≡ n * element_count (drop (suc (c.loop-at.at - 1)) c.args.lengths.now) = turned c.loop-at.inner n _ inner in
    omega (arith, same, inside, c.requires.few)
  where
    turned : (x n y : ℕ) → x ≡ y → x * n ≡ n * y
    turned x n y e = let f : x * n ≡ n * x = grind arith in f ∙ ap (λ z. n * z) e

pub loop-at-preserved : goal.loop-at-preserved
loop-at-preserved c =
    let is = c.args.indices.now in
    let ls = c.args.lengths.now in
    let all = c.args.all in
    let a = c.args.draft.now in
    let b = c.loop-at.draft in
    let d = c.pick.new.draft in
    let at = c.loop-at.at in
    let k = at - 1 in
    let i = c.index-indices-at.result in
    let n = get_or ls k 0 in
    let place = c.loop-at.place in
    let slot = c.in_ok-place-2.place in
    let inv = c.loop-at.invariant in
    let lt : k < length is = omega (arith, c.loop-at.invariant.within, c.loop-at-test.true) in
    let lv = level_at is ls all k i n c.requires.shape c.requires.counted c.requires.some lt c.index-indices-at.is refl in
    let back : suc k ≡ at = omega (arith, c.loop-at-test.true) in
    let inner : c.loop-at.inner ≡ element_count (drop (suc k) ls) = inv.inner ∙ ap (λ j. element_count (drop j ls)) (sym back) in
    let later = inv.later in
    let more = c.in_ok-place-2.ensures.slots in
    let slots = inv.slots in
    let after = c.in_ok-place-2.ensures.later in
    let from = inv.adds.slots in
    record {
      finds = λ draft there.
          let before : Finds a b (drop (suc k) is) (drop (suc k) ls) all place = subst (λ j. Finds a b (drop j is) (drop j ls) all place) (sym back) (inv.finds draft there) in
          let stands : Stands a i = subst (Stands a) (sym c.index-indices-at.is) (there k i lt) in
          let few = subst (λ (s : Location). s.width ≤ 64) (sym c.index-indices-at.is) (c.requires.words k i lt) in
          let gives = c.in_ok-place-2.ensures.gives before.grows.is (before.grows.stays i.low (low_written a i stands)) before.written in
          subst (λ xs. Finds a d xs (drop k ls) all slot) (sym lv.indices)
          (subst (λ xs. Finds a d (i ∷ drop (suc k) is) xs all slot) (sym lv.lengths)
          (finds_more a b d i (drop (suc k) is) n (drop (suc k) ls) _ place slot refl refl inner lv.unsigned few lv.some lv.most lv.inside c.requires.few before gives));
      adds = adds_then a b d (slots_of is) (i.low ∷ place ∷ []) (slots_of is) inv.adds c.in_ok-place-2.ensures.adds (λ j less h. h)
          (λ j less h. ⊎_elim (λ here. ap (among (slots_of is)) here ∙ slot_among is k i lt c.index-indices-at.is) (λ own. absurd (omega (arith, own, later, less))) (two_among j i.low place h));
      slots = omega (arith, more, slots, c.loop-at-test.true);
      later = omega (arith, after, from);
      inner = turned c.loop-at.inner n (element_count (drop (suc k) ls)) inner ∙ sym (ap element_count lv.lengths);
      below = c.in_ok-place-2.ensures.within;
      within = omega (arith, lt);
    }
  where
    turned : (x n y : ℕ) → x ≡ y → x * n ≡ n * y
    turned x n y e = let f : x * n ≡ n * x = grind arith in f ∙ ap (λ z. n * z) e

pub returns-clause-finds : goal.returns-clause-finds
returns-clause-finds c = λ draft there.
    let none : c.loop-at.at ≡ 0 = omega (arith, c.loop-at-test.false) in
    subst (λ j. Finds c.args.draft.now c.loop-at.draft (drop j c.args.indices.now) (drop j c.args.lengths.now) c.args.all c.loop-at.place) none (c.loop-at.invariant.finds draft there)
