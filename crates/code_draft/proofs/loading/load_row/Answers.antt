use Rattle.std.proofs.Common.{sym, subst, arith}
use Rattle.flat_code.specs.Fine.{InRegion}
use Rattle.code_draft.specs.declared.loading.Reading.{Reading}
use Rattle.code_draft.specs.Places.{Finds}
use Rattle.code_draft.proofs.Placing.{ok_so, on_both}
use Rattle.code_draft.proofs.Picking.{one_item, one_makes, one_segment, place_stands, several_make, several_segment}
use Rattle.code_draft.proofs.loading.load_row.Goals as goal

pub returns-then-indices-eq1-clause-makes : goal.returns-then-indices-eq1-clause-makes
returns-then-indices-eq1-clause-makes c =
    let x = c.index-indices-0.result in
    let r : Reading = record { address = x; elements = c.args.elements } in
    let one = one_item c.args.indices.now x c.if-indices-eq1.true c.index-indices-0.is in
    ok_so c.load_at.result c.load_at.ensures.makes (λ s m draft there within.
    one_makes c.args.draft.now c.load_at.new.draft s c.args.indices.now r c.args.lengths.now one c.requires.shape c.requires.counted (λ stands kind. m draft stands kind within) there)

pub returns-then-indices-eq1-clause-segment : goal.returns-then-indices-eq1-clause-segment
returns-then-indices-eq1-clause-segment c =
    let x = c.index-indices-0.result in
    let one = one_item c.args.indices.now x c.if-indices-eq1.true c.index-indices-0.is in
    ok_so c.load_at.result c.load_at.ensures.segment (λ s g n le. one_segment c.args.draft.now c.load_at.new.draft s x c.args.indices.now n one le g)

pub returns-clause-makes : goal.returns-clause-makes
returns-clause-makes c =
    let x = c.word_at-address.result in
    let e = c.args.elements in
    let is = c.args.indices.now in
    let ls = c.args.lengths.now in
    let a = c.args.draft.now in
    let b = c.place_of.new.draft in
    let slot = c.in_ok-slot.slot in
    let r : Reading = record { address = x; elements = e } in
    let w = c.word_at-address.ensures in
    ok_so c.load_at-2.result c.load_at-2.ensures.makes (λ s m draft there within.
    let f : Finds a b is ls e.region.depth slot = subst (λ n. Finds a b is ls n slot) c.from.ensures (c.in_ok-slot.ensures.finds draft there) in
    several_make a b c.load_at-2.new.draft s is r ls slot w.low w.width c.requires.counted (omega arith) f
    (m f.grows.is (place_stands a b is ls e.region.depth slot x w.low w.high w.width f) w.kind (subst (λ n. InRegion n e.width e.region) (sym f.grows.words) within)))

pub returns-clause-segment : goal.returns-clause-segment
returns-clause-segment c =
    let x = c.word_at-address.result in
    let w = c.word_at-address.ensures in
    let slot = c.in_ok-slot.slot in
    ok_so c.load_at-2.result (on_both _ _ c.load_at-2.result c.load_at-2.ensures.segment c.load_at-2.ensures.slots) (λ s g n le.
    several_segment c.args.draft.now c.place_of.new.draft c.load_at-2.new.draft s x c.args.indices.now slot n c.if-indices-eq1.false le w.low w.width c.in_ok-slot.ensures.later c.in_ok-slot.ensures.within c.in_ok-slot.ensures.slots g.1 c.in_ok-slot.ensures.adds g.0)
