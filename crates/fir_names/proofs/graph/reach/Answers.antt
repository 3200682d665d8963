use Rattle.std.proofs.Common.{rules, length, arith, refl}
use Rattle.std.proofs.lemmas.Option.{slice_get_read}
use Rattle.fir_names.proofs.Graphs.{unmarked, first_marked, visits_next, visits_within, visits_known, visited, ends_within}
use Rattle.fir_names.proofs.graph.reach.Goals as goal

pub mark-requires-clause-marked : goal.mark-requires-clause-marked
mark-requires-clause-marked c = rw (c.in_ok-marks.ensures, c.new-order.ensures.items) (unmarked (length c.args.graph.now))

pub loop-next-init : goal.loop-next-init
loop-next-init c = first_marked c.in_ok-marks.ensures c.new-order.ensures.items c.in_ok-mark.ensures

pub bounds-graph-index : goal.bounds-graph-index
bounds-graph-index c =
    visits_known c.index.result.now c.loop-next.invariant (slice_get_read c.loop-next.order.items (length c.loop-next.order.items) c.loop-next.next c.index.result.now refl (search rules) c.index.ensures)

pub mark_ends-requires-clause-within : goal.mark_ends-requires-clause-within
mark_ends-requires-clause-within c =
    let known = visits_known c.index.result.now c.loop-next.invariant (slice_get_read c.loop-next.order.items (length c.loop-next.order.items) c.loop-next.next c.index.result.now refl (search rules) c.index.ensures) in
    let here = slice_get_read c.args.graph.now (length c.args.graph.now) c.index.result.now c.index-graph-index.result refl known c.index-graph-index.is in
    rw (c.as_slice.ensures, c.loop-next.invariant.counted) (ends_within c.index.result.now c.index-graph-index.result c.requires.graph here)

pub loop-next-smaller : goal.loop-next-smaller
loop-next-smaller c = omega (arith, c.loop-next-test.true, c.len.ensures, visits_within c.loop-next.invariant)

pub loop-next-preserved : goal.loop-next-preserved
loop-next-preserved c =
    let at_next = slice_get_read c.loop-next.order.items (length c.loop-next.order.items) c.loop-next.next c.index.result.now refl (search rules) c.index.ensures in
    let here = slice_get_read c.args.graph.now (length c.args.graph.now) c.index.result.now c.index-graph-index.result refl (visits_known c.index.result.now c.loop-next.invariant at_next) c.index-graph-index.is in
    visits_next c.index.result.now c.index-graph-index.result c.loop-next.invariant at_next here (rw c.as_slice.ensures at c.in_ok-mark_ends.ensures)

pub returns-clause-reached : goal.returns-clause-reached
returns-clause-reached c = visited c.loop-next.invariant (search rules)
