use Rattle.std.proofs.Common.{◌≡◌, Some, take, map, flat_map, slice_get}
use Rattle.ground_net.specs.declared.net.NetMemory.{NetMemory}
use Rattle.ground_net.specs.declared.net.NetPort.{NetPort}
use Rattle.ground_net.specs.declared.net.NetRead.{NetRead}
use Rattle.ground_net.specs.Cones.{numbered}
use Rattle.code_memories.specs.Memories.{capture_of, capture_left}
use Rattle.code_memories.specs.Writes.{PublishesLeft}
use Rattle.code_memories.specs.SinkGroups.{EvaluatesOnly}
use Rattle.code_memories.specs.Groups.{IsCaptureGroup}
use Rattle.code_memories.proofs.captures.publish_reads.Given as goal

abbrev pub invariant-loop-leaf : goal.invariant-loop-leaf
invariant-loop-leaf l = record {
  left : (memory : NetMemory) (port : NetPort) (read : NetRead) → slice_get l.at.memory.net.now.memories l.at.memory.number ≡ Some memory → slice_get memory.ports l.at.port ≡ Some port → port.read ≡ Some read
      → PublishesLeft l.at.memory.net.now l.at.memory.sources.now (λ st instant. flat_map (capture_left l.at.memory.net.now l.at.memory.sources.now st instant l.at.memory.number) (map (capture_of l.at.memory.number memory port read) (take l.leaf (numbered read.leaves)))) l.fn.draft l.draft;
  evaluates : EvaluatesOnly l.at.memory.sources.now (IsCaptureGroup l.at.memory.net.now l.at.memory.number) l.fn.draft l.draft;
}
