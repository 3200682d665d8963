use Rattle.std.proofs.Common.{length, sym, ap, ◌∙◌, arith}
use Rattle.ground_net.specs.declared.net.NetMemory.{NetMemory}
use Rattle.code_memories.proofs.Numbered.{some_same}
use Rattle.code_memories.proofs.Targets.{nothing_left_yet}
use Rattle.code_memories.proofs.Written.{none_by, some_by, writes_at}
use Rattle.code_memories.proofs.WriteLoops.{leaf_step, port_done, idle_done}
use Rattle.code_memories.proofs.RegisterEvaluating.{none_such, more_such}
use Rattle.code_memories.specs.WriteGroups.{IsWriteGroup}
use Rattle.code_memories.proofs.writes.publish_port.Goals as goal

pub returns-then-is_none-clause-left : goal.returns-then-is_none-clause-left
returns-then-is_none-clause-left c =
    let memory = c.memory_of-memory.result.now in
    let port = c.port_of-port.result.now in
    idle_done c.args.at.memory.net.now c.args.at.memory.sources.now c.args.at.memory.number memory c.memory_of-memory.ensures c.args.at.port port c.port_of-port.ensures c.args.draft.now
    (none_by port.write c.is_none.result c.is_none.ensures c.if-is_none.true)

pub publish_leaf-requires-clause-there : goal.publish_leaf-requires-clause-there
publish_leaf-requires-clause-there c =
    let memory = c.memory_of-memory.result.now in
    let port = c.port_of-port.result.now in
    let write = some_by port.write c.is_none.result c.is_none.ensures c.if-is_none.false in
    writes_at c.args.at.memory.net.now c.args.at.memory.sources.now c.args.at.memory.number c.requires.net c.requires.memory c.args.at.port c.loop-leaf.leaf memory port write.0 c.memory_of-memory.ensures c.port_of-port.ensures write.1
    (omega (arith, c.loop-leaf-test.true))

pub loop-leaf-init : goal.loop-leaf-init
loop-leaf-init c = record {
  left = λ memory port there listed. nothing_left_yet c.args.at.memory.net.now c.args.at.memory.sources.now c.args.draft.now;
  evaluates = none_such c.args.at.memory.sources.now (IsWriteGroup c.args.at.memory.net.now c.args.at.memory.number) c.args.draft.now;
}

pub loop-leaf-preserved : goal.loop-leaf-preserved
loop-leaf-preserved c = record {
  left = λ memory port there listed.
      let same = ap (λ (y : NetMemory). length y.elements) (some_same (sym there ∙ c.memory_of-memory.ensures)) in
      leaf_step c.args.at.memory.net.now c.args.at.memory.sources.now c.args.at.memory.number memory there c.args.at.port port listed c.loop-leaf.leaf c.args.draft.now c.loop-leaf.draft c.publish_leaf.new.draft (omega (arith, c.loop-leaf-test.true, same))
      (c.loop-leaf.invariant.left memory port there listed) c.in_ok-publish_leaf.ensures.left;
  evaluates = more_such c.args.at.memory.sources.now (IsWriteGroup c.args.at.memory.net.now c.args.at.memory.number) c.args.draft.now c.loop-leaf.draft c.publish_leaf.new.draft c.loop-leaf.invariant.evaluates c.in_ok-publish_leaf.ensures.evaluates;
}

pub returns-clause-left : goal.returns-clause-left
returns-clause-left c = λ memory port there listed.
    let same = ap (λ (y : NetMemory). length y.elements) (some_same (sym there ∙ c.memory_of-memory.ensures)) in
    port_done c.args.at.memory.net.now c.args.at.memory.sources.now c.args.at.memory.number memory there c.args.at.port port listed c.loop-leaf.leaf c.args.draft.now c.loop-leaf.draft (omega (arith, c.loop-leaf-test.false, same))
    (c.loop-leaf.invariant.left memory port there listed) memory port there listed

pub returns-then-is_none-clause-evaluates : goal.returns-then-is_none-clause-evaluates
returns-then-is_none-clause-evaluates c = none_such c.args.at.memory.sources.now (IsWriteGroup c.args.at.memory.net.now c.args.at.memory.number) c.args.draft.now
