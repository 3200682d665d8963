use Rattle.std.proofs.Common.{rules}
use Rattle.fir_names.specs.declared.graph.Edge.{Edge}
use Rattle.fir_names.specs.Graphs.{Falls}
use Rattle.fir_names.proofs.Cycles.{edge_more}
use Rattle.fir_names.proofs.parts.fall_from.Goals as goal

abbrev any_edge : Edge
any_edge = record { to = 0; place = record { line = 0; column = 0 } }

pub loop-edge-preserved : goal.loop-edge-preserved
loop-edge-preserved c =
    edge_more (λ (edge : Edge). Falls c.args.ranks.now c.args.heads.now c.args.from edge.to) c.args.out.now c.loop-edge.edge-index any_edge c.loop-edge-test.true c.loop-edge.invariant
    (c.falls.ensures (search rules))
