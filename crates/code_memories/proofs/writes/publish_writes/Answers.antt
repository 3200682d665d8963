use Rattle.std.proofs.Common.{length, sym, ap, ◌∙◌, arith}
use Rattle.ground_net.specs.declared.net.NetMemory.{NetMemory}
use Rattle.code_memories.proofs.Numbered.{some_there, some_same}
use Rattle.code_memories.proofs.Targets.{nothing_left_yet}
use Rattle.code_memories.proofs.WriteLoops.{port_step, writes_done}
use Rattle.code_memories.proofs.RegisterEvaluating.{none_such, more_such}
use Rattle.code_memories.specs.WriteGroups.{IsWriteGroup}
use Rattle.code_memories.proofs.writes.publish_writes.Goals as goal

pub loop-port-init : goal.loop-port-init
loop-port-init c = record {
  left = λ memory there. nothing_left_yet c.args.at.net.now c.args.at.sources.now c.args.draft.now;
  evaluates = none_such c.args.at.sources.now (IsWriteGroup c.args.at.net.now c.args.at.number) c.args.draft.now;
}

pub publish_port-requires-clause-there : goal.publish_port-requires-clause-there
publish_port-requires-clause-there c =
    let memory = c.memory_of.result.now in
    let port = some_there memory.ports c.loop-port.port (omega (arith, c.loop-port-test.true)) in
    record { memory = memory; there = c.memory_of.ensures; port = port.0; listed = port.1 }

pub loop-port-preserved : goal.loop-port-preserved
loop-port-preserved c = record {
  left = λ memory there.
      let same = ap (λ (y : NetMemory). length y.ports) (some_same (sym there ∙ c.memory_of.ensures)) in
      port_step c.args.at.net.now c.args.at.sources.now c.args.at.number memory there c.loop-port.port c.args.draft.now c.loop-port.draft c.publish_port.new.draft (omega (arith, c.loop-port-test.true, same)) (c.loop-port.invariant.left memory there)
      c.in_ok-publish_port.ensures.left;
  evaluates = more_such c.args.at.sources.now (IsWriteGroup c.args.at.net.now c.args.at.number) c.args.draft.now c.loop-port.draft c.publish_port.new.draft c.loop-port.invariant.evaluates c.in_ok-publish_port.ensures.evaluates;
}

pub returns-clause-left : goal.returns-clause-left
returns-clause-left c = λ memory there.
    let same = ap (λ (y : NetMemory). length y.ports) (some_same (sym there ∙ c.memory_of.ensures)) in
    writes_done c.args.at.net.now c.args.at.sources.now c.args.at.number memory there c.loop-port.port c.args.draft.now c.loop-port.draft (omega (arith, c.loop-port-test.false, same)) (c.loop-port.invariant.left memory there) memory there
