use Rattle.std.proofs.Common.{◌≡◌, ℕ, ◌+◌, ◌-◌, ◌<◌, length, take, slice_index, sym, subst, arith, eq-eqb, IsTrue, nat_eq}
use Rattle.std.proofs.lemmas.Bool.Decides.{nat_tests}
use Rattle.std.specs.List.{All}
use Rattle.std.proofs.lemmas.List.{get_or_read}
use Rattle.comb_order.specs.Search.{Stands}
use Rattle.comb_order.specs.Reach.{Spreads}
use Rattle.comb_order.proofs.Steps.{row_there}
use Rattle.comb_order.proofs.Reaches.{turned, met_or_not}
use Rattle.comb_order.proofs.first.reads_itself.Goals as goal

zero_of : (n : ℕ) → IsTrue (nat_eq n 0) → n ≡ 0
zero_of n t = grind (arith, nat_tests)

pub bounds-reads-next : goal.bounds-reads-next
bounds-reads-next c =
    let last : c.len-at.result - 1 + 1 ≡ length c.going.waiting.items = omega (arith, c.going.waiting.ok.0, c.len-at.ensures, c.len.ensures, c.going-test.true) in
    let is : c.index-next.result.now ≡ slice_index c.going.waiting.items (c.len-at.result - 1) = get_or_read c.going.waiting.items _ _ (omega arith) c.index-next.ensures 0 in
    let stands : Stands c.going.waiting.items c.index-next.result.now = (c.len-at.result - 1, omega arith, sym is) in
    (c.going.invariant.waits c.index-next.result.now stands).0

pub spread-requires : goal.spread-requires
spread-requires c = λ k d lt.
    let last : c.len-at.result - 1 + 1 ≡ length c.going.waiting.items = omega (arith, c.going.waiting.ok.0, c.len-at.ensures, c.len.ensures, c.going-test.true) in
    let is : c.index-next.result.now ≡ slice_index c.going.waiting.items (c.len-at.result - 1) = get_or_read c.going.waiting.items _ _ (omega arith) c.index-next.ensures 0 in
    let stands : Stands c.going.waiting.items c.index-next.result.now = (c.len-at.result - 1, omega arith, sym is) in
    let inside = (c.going.invariant.waits c.index-next.result.now stands).0 in
    let row : All (λ w. w < length c.args.reads.now) c.index-reads-next.result.items =
    subst (λ r. All (λ w. w < length c.args.reads.now) r.items) (sym c.index-reads-next.is) (c.requires.vertices c.index-next.result.now c.index-reads-next.result inside) in
    let here : All (λ w. w < length c.args.reads.now) c.as_slice.result.now = subst (All (λ w. w < length c.args.reads.now)) (sym c.as_slice.ensures.value) row in
    omega (arith, here k d lt, c.going.invariant.long)

pub going-preserved : goal.going-preserved
going-preserved c =
    let last : c.len-at.result - 1 + 1 ≡ length c.going.waiting.items = omega (arith, c.going.waiting.ok.0, c.len-at.ensures, c.len.ensures, c.going-test.true) in
    let is : c.index-next.result.now ≡ slice_index c.going.waiting.items (c.len-at.result - 1) = get_or_read c.going.waiting.items _ _ (omega arith) c.index-next.ensures 0 in
    let stands : Stands c.going.waiting.items c.index-next.result.now = (c.len-at.result - 1, omega arith, sym is) in
    let inside = (c.going.invariant.waits c.index-next.result.now stands).0 in
    let row = c.index-reads-next.result in
    let there = row_there c.args.reads.now c.index-next.result.now row inside c.index-reads-next.is in
    let spread : Spreads c.index-reads-next.result.items c.going.marks (take (c.len-at.result - 1) c.going.waiting.items) c.spread.new.marks c.spread.new.waiting.items =
    subst (λ r. Spreads r c.going.marks (take (c.len-at.result - 1) c.going.waiting.items) c.spread.new.marks c.spread.new.waiting.items) c.as_slice.ensures.value
    (subst (λ w. Spreads c.as_slice.result.now c.going.marks w c.spread.new.marks c.spread.new.waiting.items) c.truncate.ensures.items c.in_ok-spread.ensures) in
    turned c.args.reads.now c.args.vertex c.going.marks c.going.waiting.items c.spread.new.marks c.spread.new.waiting.items (c.len-at.result - 1) c.index-next.result.now row c.requires.vertices
    c.going.invariant last is there spread

pub returns : goal.returns
returns c =
    let none : length c.going.waiting.items ≡ 0 = omega (arith, c.going.waiting.ok.0, c.len.ensures, c.going-test.false) in
    let both = met_or_not c.args.reads.now c.args.vertex c.going.marks c.going.waiting.items c.requires.vertices c.going.invariant none c.requires.inside in
    (λ t. both.0 (zero_of _ t), λ l. eq-eqb _ _ (both.1 l))
