use Rattle.std.proofs.Common.{◌<◌, length, refl, arith, subst, get_or}
use Rattle.std.proofs.lemmas.Bool.{eqb-true}
use Rattle.std.proofs.lemmas.Option.{slice_get_read, slice_get-get_or}
use Rattle.fir_names.specs.declared.graph.Edge.{Edge}
use Rattle.fir_names.specs.Graphs.{Leads}
use Rattle.fir_names.proofs.Heads.{edge_leads}
use Rattle.fir_names.proofs.parts.is_edge.Goals as goal

abbrev any_edge : Edge
any_edge = record { to = 0; place = record { line = 0; column = 0 } }

pub returns : goal.returns
returns c t =
    let from_within : c.args.from < length c.args.graph.now = omega (arith, c.if-from-graph.false) in
    let here = slice_get_read c.args.graph.now (length c.args.graph.now) c.args.from c.index-graph-from.result refl from_within c.index-graph-from.is in
    let out = c.as_slice-out.result.now in
    let edge_within : c.args.edge < length out = omega (arith, c.if-edge-out.false) in
    let edge = get_or out c.args.edge any_edge in
    subst (Leads c.args.graph.now c.args.from) (eqb-true edge.to c.args.to t)
    (edge_leads c.args.from c.args.edge out edge (rw c.as_slice-out.ensures here) (slice_get-get_or out c.args.edge any_edge edge_within))
