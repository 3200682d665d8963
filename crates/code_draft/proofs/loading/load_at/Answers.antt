use Rattle.std.proofs.Common.{rules, ◌≡◌, ◌+◌, ◌-◌, ◌*◌, ◌<◌, ◌≤◌, refl, sym, subst, arith}
use Rattle.flat_code.specs.declared.instr.Region.{Region}
use Rattle.code_draft.proofs.Reaching.{last_within, last_high, low_written, narrow_makes, wide_makes, narrow_segment, wide_segment}
use Rattle.code_draft.proofs.loading.load_at.Goals as goal

pub returns-then-width-le64-clause-makes : goal.returns-then-width-le64-clause-makes
returns-then-width-le64-clause-makes c = λ is there kind within.
    let r = c.args.reading in
    let a = c.args.draft.now in
    let g = c.in_ok-low.ensures.loads is (low_written a r.address there) (last_within a.words r.elements.width r.elements.region c.requires.some within) in
    narrow_makes r _ c.in_ok-low.low c.low_mask.result a c.load_word.new.draft refl refl refl c.requires.address c.if-width-le64.true (c.low_mask.ensures.narrow c.if-width-le64.true) g

pub returns-then-width-le64-clause-segment : goal.returns-then-width-le64-clause-segment
returns-then-width-le64-clause-segment c =
    let low = c.in_ok-low.ensures in
    narrow_segment c.args.reading.address c.args.reading.elements.width c.in_ok-low.low c.args.draft.now c.load_word.new.draft c.requires.address c.if-width-le64.true low.adds low.slots low.later low.within

pub returns-clause-makes : goal.returns-clause-makes
returns-clause-makes c = λ is there kind within.
    let r = c.args.reading in
    let e = r.elements in
    let a = c.args.draft.now in
    let b = c.load_word.new.draft in
    let d = c.load_word-2.new.draft in
    let many : 64 < e.width = omega (arith, c.if-width-le64.false) in
    let most : e.width ≤ 128 = e.narrow in
    let next : Region = record { base = c.in-Some.base; stride = e.region.stride; depth = e.region.depth } in
    let base : next.base ≡ e.region.base + 1 = search (rules, c.checked_add.ensures, c.in-Some.is, c.in-Some.ensures) in
    let low = low_written a r.address there in
    let g = c.in_ok-low.ensures.loads is low (last_within a.words e.width e.region c.requires.some within) in
    let room = subst (λ m. next.base + (next.depth - 1) * next.stride < m) (sym g.grows.words) (last_high a.words e.width e.region next c.requires.some many base refl refl within) in
    let h = c.in_ok-high.ensures.loads g.grows.is (g.grows.stays r.address.low low) room in
    wide_makes r _ c.in_ok-low.low c.in_ok-high.high c.low_mask.result c.low_mask-2.result next a b d refl refl refl c.requires.address many (c.low_mask.ensures.wide (omega (arith, many))) (c.low_mask-2.ensures.narrow (omega (arith, most))) base refl refl g h

pub returns-clause-segment : goal.returns-clause-segment
returns-clause-segment c =
    let low = c.in_ok-low.ensures in
    let high = c.in_ok-high.ensures in
    wide_segment c.args.reading.address c.args.reading.elements.width c.in_ok-low.low c.in_ok-high.high c.args.draft.now c.load_word.new.draft c.load_word-2.new.draft c.requires.address (omega (arith, c.if-width-le64.false)) low.adds high.adds
    low.slots high.slots low.later low.within high.later high.within
