use Rattle.std.proofs.Common.{rules, arith}
use Rattle.fir_names.specs.Graphs.{Nears}
use Rattle.fir_names.proofs.Heads.{near_more, heads_lead}
use Rattle.fir_names.proofs.parts.all_near.Goals as goal

pub loop-node-preserved : goal.loop-node-preserved
loop-node-preserved c =
    near_more (λ k. Nears c.args.turned c.args.graph.now c.args.heads.now c.args.ways.now.far.items k) c.loop-node.node c.loop-node.invariant (c.is_near.ensures (search rules))

pub returns : goal.returns
returns c t k lt =
    heads_lead c.args.turned c.args.graph.now c.args.heads.now c.args.ways.now.far.items (λ j below. c.loop-node.invariant j (omega (arith, below, c.loop-node-test.false))) k lt
