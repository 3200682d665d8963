use Rattle.std.proofs.Common.{◌-◌, ◌<◌, ◌≤◌, All, drop, length, sym, subst, ap, ◌∙◌, arith}
use Rattle.std.specs.Prelude.{IsSome}
use Rattle.ground_net.specs.Grounds.{chosen}
use Rattle.ground_net.specs.Shapes.{shape_of_choice}
use Rattle.flat_code.specs.Meaning.{location_shape}
use Rattle.flat_code.specs.Fine.{location_shapes, location_slots, slots_of}
use Rattle.code_draft.specs.Drafts.{IsDraft, Stands, Makes}
use Rattle.code_draft.specs.Segments.{Segment, Step}
use Rattle.code_emit.specs.Ways.{IsMade}
use Rattle.code_emit.proofs.Choosing.{twice, odd_long, choice_from, split_at, two_less, none_less, three_less, chain_shape, chain_step, rest_all}
use Rattle.code_emit.specs.Spans.{ComeBefore}
use Rattle.code_emit.proofs.Following.{chain_segment}
use Rattle.code_emit.proofs.chains.emit_chain.Goals as goal

pub emit_one_choice-requires : goal.emit_one_choice-requires
emit_one_choice-requires c =
    let ss = c.args.locations.now in
    let many = c.requires.many in
    let same = c.in_ok-from_slice.ensures ∙ rest_all (length ss - 3) ss in
    let odd = odd_long ss c.requires.shape in
    let half = three_less odd.0 (length ss) odd.1 many in
    let e = half.1 in
    let lt : twice half.0 < length ss = omega (arith, e, many) in
    subst (λ xs. IsSome (shape_of_choice (location_shapes xs))) (sym same)
    (subst (λ n. IsSome (shape_of_choice (location_shapes (drop n ss)))) (sym e) (choice_from half.0 ss c.requires.shape lt))

pub loop-at-init : goal.loop-at-init
loop-at-init c =
    let ss = c.args.locations.now in
    let d = c.args.draft.now in
    let e = c.emit_one_choice.new.draft in
    let last = c.in_ok-last.last in
    let many = c.requires.many in
    let same = c.in_ok-from_slice.ensures ∙ rest_all (length ss - 3) ss in
    let odd = odd_long ss c.requires.shape in
    record {
      even = three_less odd.0 (length ss) odd.1 many;
      within = omega (arith, many);
      shape = ap (λ xs. shape_of_choice (location_shapes xs)) (sym same) ∙ c.in_ok-last.ensures.shape;
      makes = subst (λ xs. IsDraft d → All (Stands d) xs → Makes d e last (IsMade chosen xs (location_shape last))) same c.in_ok-last.ensures.makes;
      segment = λ come.
          let st = subst (λ xs. Step d e (slots_of xs) (location_slots last) 2) same c.in_ok-last.ensures.step in
          st.segment;
    }

pub emit_one_choice-requires-in-loop-at : goal.emit_one_choice-requires-in-loop-at
emit_one_choice-requires-in-loop-at c =
    let ss = c.args.locations.now in
    let at = c.loop-at.at in
    let i = c.loop-at.invariant in
    let first = c.index-locations-at.result in
    let second = c.index-locations-at-in-loop-at.result in
    let last = c.loop-at.last in
    let within = i.within in
    let le : 2 ≤ at = c.loop-at-test.true in
    let items = split_at at ss first second le within c.index-locations-at.is c.index-locations-at-in-loop-at.is in
    let half = two_less i.even.0 at i.even.1 le in
    let e = half.1 in
    let lt : twice half.0 < length ss = omega (arith, e, within) in
    let some : IsSome (shape_of_choice (location_shapes (drop (at - 2) ss))) = subst (λ n. IsSome (shape_of_choice (location_shapes (drop n ss)))) (sym e) (choice_from half.0 ss c.requires.shape lt) in
    subst (λ xs. IsSome (shape_of_choice (location_shapes xs))) (sym c.in_ok-from_slice-2.ensures)
    (subst (λ o. IsSome o) (sym (chain_shape (drop at ss) first second last i.shape ∙ ap (λ xs. shape_of_choice (location_shapes xs)) (sym items))) some)

pub loop-at-preserved : goal.loop-at-preserved
loop-at-preserved c =
    let ss = c.args.locations.now in
    let at = c.loop-at.at in
    let i = c.loop-at.invariant in
    let first = c.index-locations-at.result in
    let second = c.index-locations-at-in-loop-at.result in
    let last = c.loop-at.last in
    let within = i.within in
    let le : 2 ≤ at = c.loop-at-test.true in
    let items = split_at at ss first second le within c.index-locations-at.is c.index-locations-at-in-loop-at.is in
    let d = c.args.draft.now in
    let e = c.loop-at.draft in
    let f = c.emit_one_choice-in-loop-at.new.draft in
    let s = c.in_ok-last-2.last in
    let same = c.in_ok-from_slice-2.ensures in
    record {
      even = two_less i.even.0 at i.even.1 le;
      within = omega (arith, within);
      shape = ap (λ xs. shape_of_choice (location_shapes xs)) items
          ∙ (sym (chain_shape (drop at ss) first second last i.shape) ∙ (ap (λ xs. shape_of_choice (location_shapes xs)) (sym same) ∙ c.in_ok-last-2.ensures.shape));
      makes = subst (λ xs. IsDraft d → All (Stands d) xs → Makes d f s (IsMade chosen xs (location_shape s))) (sym items)
          (chain_step d e f (drop at ss) first second last s i.shape i.makes
          (subst (λ xs. IsDraft e → All (Stands e) xs → Makes e f s (IsMade chosen xs (location_shape s))) same c.in_ok-last-2.ensures.makes));
      segment = subst (λ xs. ComeBefore d.slots (slots_of xs) → Segment d f (slots_of xs) (location_slots s) 2) (sym items)
          (chain_segment d e f (drop at ss) first second last s i.segment (subst (λ xs. Step e f (slots_of xs) (location_slots s) 2) same c.in_ok-last-2.ensures.step));
    }

pub returns-clause-shape : goal.returns-clause-shape
returns-clause-shape c =
    let i = c.loop-at.invariant in
    let none = none_less i.even.0 c.loop-at.at i.even.1 (omega (arith, c.loop-at-test.false)) in
    ap (λ n. shape_of_choice (location_shapes (drop n c.args.locations.now))) (sym none) ∙ i.shape

pub returns-clause-makes : goal.returns-clause-makes
returns-clause-makes c =
    let i = c.loop-at.invariant in
    let d = c.args.draft.now in
    let last = c.loop-at.last in
    let none = none_less i.even.0 c.loop-at.at i.even.1 (omega (arith, c.loop-at-test.false)) in
    subst (λ n. IsDraft d → All (Stands d) (drop n c.args.locations.now) → Makes d c.loop-at.draft last (IsMade chosen (drop n c.args.locations.now) (location_shape last))) none i.makes

pub returns-clause-segment : goal.returns-clause-segment
returns-clause-segment c =
    let i = c.loop-at.invariant in
    let d = c.args.draft.now in
    let ss = c.args.locations.now in
    let last = c.loop-at.last in
    let none = none_less i.even.0 c.loop-at.at i.even.1 (omega (arith, c.loop-at-test.false)) in
    subst (λ n. ComeBefore d.slots (slots_of (drop n ss)) → Segment d c.loop-at.draft (slots_of (drop n ss)) (location_slots last) 2) none i.segment
