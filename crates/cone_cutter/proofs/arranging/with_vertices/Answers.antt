use Rattle.std.proofs.Common.{◌≡◌, ◌<◌, [], ◌∷◌, length, take, slice_index, sym, subst, ap, ◌∙◌, arith, get_or}
use Rattle.std.specs.List.{All}
use Rattle.std.proofs.lemmas.List.{take_more, take_all}
use Rattle.cone_cutter.specs.Rows.{row_at}
use Rattle.cone_cutter.specs.Marks.{AreReady, PlacesVertices}
use Rattle.cone_cutter.proofs.Walks.{row_is, row_below}
use Rattle.cone_cutter.proofs.VertexOrder.{Taken, taken_none, taken_more, leaf_within, leaf_new, leaf_reads, need_ready, served_none, served_more, needs_served}
use Rattle.cone_cutter.proofs.arranging.with_vertices.Goals as goal

pub loop-leaf-init : goal.loop-leaf-init
loop-leaf-init c = taken_none c.args.rows.now c.in_ok-arranged.arranged c.in_ok-arranged.ensures.arranged c.in_ok-arranged.ensures.empty

pub place_leaf-requires-clause-arranged : goal.place_leaf-requires-clause-arranged
place_leaf-requires-clause-arranged c = c.loop-leaf.invariant.arranged

pub place_leaf-requires-clause-within : goal.place_leaf-requires-clause-within
place_leaf-requires-clause-within c = leaf_within c.args.rows.now c.args.sequence.now c.requires.order c.loop-leaf.leaf-index c.loop-leaf-test.true c.loop-leaf.arranged c.loop-leaf.invariant

pub place_leaf-requires-clause-new : goal.place_leaf-requires-clause-new
place_leaf-requires-clause-new c = leaf_new c.args.rows.now c.args.sequence.now c.requires.order c.loop-leaf.leaf-index c.loop-leaf-test.true c.loop-leaf.arranged c.loop-leaf.invariant

pub place_leaf-requires-clause-ready : goal.place_leaf-requires-clause-ready
place_leaf-requires-clause-ready c = leaf_reads c.args.rows.now c.args.sequence.now c.requires.order c.loop-leaf.leaf-index c.loop-leaf-test.true c.loop-leaf.arranged c.loop-leaf.invariant

pub loop-leaf-preserved : goal.loop-leaf-preserved
loop-leaf-preserved c =
    let i = c.loop-leaf.leaf-index in
    let x = slice_index c.args.sequence.now c.loop-leaf.leaf-index in
    subst (λ s. Taken c.args.rows.now s c.place_leaf.new.arranged) (sym (take_more c.args.sequence.now i 0 c.loop-leaf-test.true))
    (taken_more c.args.rows.now (take i c.args.sequence.now) x c.loop-leaf.arranged c.place_leaf.new.arranged c.loop-leaf.invariant c.in_ok-place_leaf.ensures)

pub loop-row-init : goal.loop-row-init
loop-row-init c = served_none c.args.rows.now c.args.sequence.now _ c.loop-leaf.arranged c.loop-leaf.invariant (take_all c.loop-leaf.leaf-index c.args.sequence.now (omega (arith, c.loop-leaf-test.false)))

pub place_vertices-requires-clause-arranged : goal.place_vertices-requires-clause-arranged
place_vertices-requires-clause-arranged c = c.loop-row.invariant.arranged

pub place_vertices-requires-clause-inside : goal.place_vertices-requires-clause-inside
place_vertices-requires-clause-inside c =
    let rows = c.args.rows.now in
    let k = c.loop-row.row-index in
    let lt : c.loop-row.row-index < length c.args.rows.now.needed.items = omega (arith, c.loop-row-test.true, ap length c.as_slice-row-items.ensures.value) in
    let is = c.row-item.is ∙ ap (λ s. get_or s k c.row-item.result) c.as_slice-row-items.ensures.value in
    subst (All (λ x. x < length c.args.rows.now.reads.items)) (sym c.as_slice.ensures) (row_below rows.needed.items (length rows.reads.items) k c.row-item.result c.requires.rows.needs_inside lt is)

pub place_vertices-requires-clause-ready : goal.place_vertices-requires-clause-ready
place_vertices-requires-clause-ready c =
    let rows = c.args.rows.now in
    let k = c.loop-row.row-index in
    let lt : c.loop-row.row-index < length c.args.rows.now.needed.items = omega (arith, c.loop-row-test.true, ap length c.as_slice-row-items.ensures.value) in
    let is = c.row-item.is ∙ ap (λ s. get_or s k c.row-item.result) c.as_slice-row-items.ensures.value in
    subst (λ r. AreReady c.args.rows.now r c.loop-row.arranged) (sym (c.as_slice.ensures ∙ row_is rows.needed.items k c.row-item.result lt is))
    (need_ready rows c.args.sequence.now c.requires.needs_in_order k c.loop-row.arranged c.loop-row.invariant.stand)

pub loop-row-preserved : goal.loop-row-preserved
loop-row-preserved c =
    let rows = c.args.rows.now in
    let k = c.loop-row.row-index in
    let lt : c.loop-row.row-index < length c.args.rows.now.needed.items = omega (arith, c.loop-row-test.true, ap length c.as_slice-row-items.ensures.value) in
    let is = c.row-item.is ∙ ap (λ s. get_or s k c.row-item.result) c.as_slice-row-items.ensures.value in
    let placed = subst (λ r. PlacesVertices c.args.rows.now r c.loop-row.arranged c.place_vertices.new.arranged) (c.as_slice.ensures ∙ row_is rows.needed.items k c.row-item.result lt is) c.in_ok-place_vertices.ensures in
    served_more rows c.args.sequence.now c.requires.needs_in_order k c.loop-row.arranged c.place_vertices.new.arranged c.loop-row.invariant placed

pub returns-clause-order : goal.returns-clause-order
returns-clause-order c = c.loop-row.invariant.arranged.order

pub returns-clause-needs_in_order : goal.returns-clause-needs_in_order
returns-clause-needs_in_order c = needs_served c.args.rows.now c.args.sequence.now c.loop-row.row-index c.loop-row.arranged (omega (arith, c.loop-row-test.false, ap length c.as_slice-row-items.ensures.value)) c.loop-row.invariant
