use Rattle.std.proofs.Common.{◌≡◌, Some, take, flat_map, slice_get}
use Rattle.ground_net.specs.declared.net.NetMemory.{NetMemory}
use Rattle.ground_net.specs.declared.net.NetPort.{NetPort}
use Rattle.ground_net.specs.Cones.{numbered}
use Rattle.ground_net.specs.Cycles.{shown}
use Rattle.ground_net.specs.Nets.{element_shapes}
use Rattle.partition_code.specs.Effects.{leaf_told}
use Rattle.code_memories.specs.Writes.{PublishesLeft}
use Rattle.code_memories.specs.SinkGroups.{EvaluatesOnly}
use Rattle.code_memories.specs.WriteGroups.{IsWriteGroup}
use Rattle.code_memories.proofs.writes.publish_port.Given as goal

abbrev pub invariant-loop-leaf : goal.invariant-loop-leaf
invariant-loop-leaf l = record {
  left : (memory : NetMemory) (port : NetPort) → slice_get l.at.memory.net.now.memories l.at.memory.number ≡ Some memory → slice_get memory.ports l.at.port ≡ Some port
      → PublishesLeft l.at.memory.net.now l.at.memory.sources.now (λ st instant. flat_map (leaf_told l.at.memory.net.now l.at.memory.number memory (shown instant port)) (take l.leaf (numbered (element_shapes memory)))) l.fn.draft l.draft;
  evaluates : EvaluatesOnly l.at.memory.sources.now (IsWriteGroup l.at.memory.net.now l.at.memory.number) l.fn.draft l.draft;
}
