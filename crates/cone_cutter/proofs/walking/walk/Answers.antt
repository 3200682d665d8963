use Rattle.std.proofs.Common.{◌<◌, length, sym, subst, ◌∙◌, arith}
use Rattle.std.specs.List.{All}
use Rattle.std.proofs.lemmas.List.{get_or_read}
use Rattle.cone_cutter.specs.Walks.{Meets}
use Rattle.cone_cutter.proofs.Lists.{stands}
use Rattle.cone_cutter.proofs.Walks.{walk_begins, walk_goes_on, walk_ends, row_below, row_is}
use Rattle.cone_cutter.proofs.walking.walk.Goals as goal

pub going-init : goal.going-init
going-init c = walk_begins c.args.reads.now c.args.roots.now c.args.stamp c.args.stamps.now _ c.meet.new.stamps c.meet.new.found.items c.requires.fresh c.clear.ensures.items c.in_ok-meet.ensures

pub bounds-reads-leaf : goal.bounds-reads-leaf
bounds-reads-leaf c =
    let found = c.going.found.items in
    let lt : c.going.place < length c.going.found.items = omega (arith, c.going.found.ok.0, c.len.ensures, c.going-test.true) in
    let is = get_or_read found _ _ lt c.index-leaf.ensures 0 in
    let here = c.going.invariant.here c.index-leaf.result.now (stands found c.index-leaf.result.now c.going.place lt (sym is)) in
    omega (arith, here.1, c.going.invariant.long, c.requires.long)

pub meet-requires-in-going : goal.meet-requires-in-going
meet-requires-in-going c =
    let found = c.going.found.items in
    let lt : c.going.place < length c.going.found.items = omega (arith, c.going.found.ok.0, c.len.ensures, c.going-test.true) in
    let is = get_or_read found _ _ lt c.index-leaf.ensures 0 in
    let here = c.going.invariant.here c.index-leaf.result.now (stands found c.index-leaf.result.now c.going.place lt (sym is)) in
    let inside : c.index-leaf.result.now < length c.args.reads.now = omega (arith, here.1, c.going.invariant.long, c.requires.long) in
    let below = row_below c.args.reads.now _ c.index-leaf.result.now c.index-reads-leaf.result c.requires.below inside c.index-reads-leaf.is in
    subst (λ r. All (λ x. x < length c.going.stamps) r) (sym c.as_slice.ensures)
    (subst (λ n. All (λ x. x < n) c.index-reads-leaf.result) (sym c.going.invariant.long) below)

pub going-preserved : goal.going-preserved
going-preserved c =
    let found = c.going.found.items in
    let lt : c.going.place < length c.going.found.items = omega (arith, c.going.found.ok.0, c.len.ensures, c.going-test.true) in
    let is = get_or_read found _ _ lt c.index-leaf.ensures 0 in
    let here = c.going.invariant.here c.index-leaf.result.now (stands found c.index-leaf.result.now c.going.place lt (sym is)) in
    let inside : c.index-leaf.result.now < length c.args.reads.now = omega (arith, here.1, c.going.invariant.long, c.requires.long) in
    let row = row_is c.args.reads.now c.index-leaf.result.now c.index-reads-leaf.result inside c.index-reads-leaf.is in
    let met = subst (λ r. Meets r c.args.stamp c.going.stamps c.going.found.items c.meet-in-going.new.stamps c.meet-in-going.new.found.items) (c.as_slice.ensures ∙ row) c.in_ok-meet-2.ensures in
    walk_goes_on c.args.reads.now c.args.roots.now c.args.stamp c.going.place c.args.stamps.now c.going.stamps found c.meet-in-going.new.stamps c.meet-in-going.new.found.items c.index-leaf.result.now c.going.invariant lt is met

pub returns : goal.returns
returns c =
    walk_ends c.args.reads.now c.args.roots.now c.args.stamp c.going.place c.args.stamps.now c.going.stamps c.going.found.items c.going.invariant
    (omega (arith, c.going.found.ok.0, c.len.ensures, c.going-test.false))
