use Rattle.std.proofs.Common.{arith}
use Rattle.plain_values.specs.Contents.{contents_of, leaves_of_seen}
use Rattle.plain_cycle.specs.Edges.{IsReadFrom}
use Rattle.plain_cycle.proofs.Besides.{beside_more, beside_all}
use Rattle.plain_cycle.proofs.edge_memories.read_leaves.Goals as goal

pub loop-leaf-preserved : goal.loop-leaf-preserved
loop-leaf-preserved c =
    let memory = c.args.memory.now in
    beside_more (IsReadFrom memory.memory.now (leaves_of_seen memory) (contents_of memory.leaves.now c.args.elements.now)) c.args.leaves.now c.loop-leaf.leaf-index c.leaf-item.result c.loop-leaf.values c.push.new.self c.in_ok-read_leaf.field-0
    (omega arith) c.leaf-item.is c.in_ok-push.ensures.ok c.in_ok-read_leaf.ensures c.loop-leaf.invariant

pub returns : goal.returns
returns c =
    let memory = c.args.memory.now in
    beside_all (IsReadFrom memory.memory.now (leaves_of_seen memory) (contents_of memory.leaves.now c.args.elements.now)) c.args.leaves.now c.loop-leaf.leaf-index c.loop-leaf.values (omega arith) c.loop-leaf.invariant
