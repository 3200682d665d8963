use Rattle.std.proofs.Common.{length, refl, sym, ◌∙◌, arith, subst, get_or}
use Rattle.std.proofs.lemmas.List.{take_all}
use Rattle.std.proofs.lemmas.Option.{slice_get_read, slice_get-get_or}
use Rattle.fir_names.specs.declared.graph.Edge.{Edge}
use Rattle.fir_names.specs.Graphs.{LoopsOf, Adds}
use Rattle.fir_names.proofs.Graphs.{some_same}
use Rattle.fir_names.proofs.Cycles.{loops_more, loop_where}
use Rattle.fir_names.proofs.loops.push_loops_of.Goals as goal
use Rattle.fir_names.proofs.Members.{Contains-get}

abbrev any_edge : Edge
any_edge = record { to = 0; place = record { line = 0; column = 0 } }

pub leads_back-requires-clause-edge : goal.leads_back-requires-clause-edge
leads_back-requires-clause-edge c =
    let out = c.as_slice-out.result.now in
    let here = slice_get_read c.args.graph.now (length c.args.graph.now) c.args.from c.index-graph-from.result refl c.requires.from c.index-graph-from.is in
    let edge = get_or out c.loop-edge.edge-index any_edge in
    record { out = out; here = rw c.as_slice-out.ensures here; stands = Contains-get out c.loop-edge.edge-index edge (slice_get-get_or out c.loop-edge.edge-index any_edge c.loop-edge-test.true) }

pub leads_back-requires-clause-within : goal.leads_back-requires-clause-within
leads_back-requires-clause-within c =
    let out = c.as_slice-out.result.now in
    let here = slice_get_read c.args.graph.now (length c.args.graph.now) c.args.from c.index-graph-from.result refl c.requires.from c.index-graph-from.is in
    let edge = get_or out c.loop-edge.edge-index any_edge in
    c.requires.graph.within c.args.from out edge (rw c.as_slice-out.ensures here)
    (Contains-get out c.loop-edge.edge-index edge (slice_get-get_or out c.loop-edge.edge-index any_edge c.loop-edge-test.true))

pub loop-edge-preserved : goal.loop-edge-preserved
loop-edge-preserved c =
    let out = c.as_slice-out.result.now in
    loops_more c.args.graph.now c.args.from out c.loop-edge.edge-index any_edge c.loop-edge-test.true c.loop-edge.invariant
    (loop_where c.args.graph.now c.args.from (get_or out c.loop-edge.edge-index any_edge) _ c.in_ok-back.ensures c.in_ok-push_where.ensures)

pub returns : goal.returns
returns c out e =
    let here = slice_get_read c.args.graph.now (length c.args.graph.now) c.args.from c.index-graph-from.result refl c.requires.from c.index-graph-from.is in
    subst (λ o. Adds (LoopsOf c.args.graph.now c.args.from o) c.args.faults.now.items c.loop-edge.faults.items)
    (take_all c.loop-edge.edge-index c.as_slice-out.result.now (omega (arith, c.loop-edge-test.false)) ∙ c.as_slice-out.ensures ∙ some_same (sym here ∙ e)) c.loop-edge.invariant
