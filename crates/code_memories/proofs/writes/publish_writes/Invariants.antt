use Rattle.std.proofs.Common.{◌≡◌, Some, take, flat_map, slice_get}
use Rattle.ground_net.specs.declared.net.NetMemory.{NetMemory}
use Rattle.partition_code.specs.Effects.{port_told}
use Rattle.code_memories.specs.Writes.{PublishesLeft}
use Rattle.code_memories.specs.SinkGroups.{EvaluatesOnly}
use Rattle.code_memories.specs.WriteGroups.{IsWriteGroup}
use Rattle.code_memories.proofs.writes.publish_writes.Given as goal

abbrev pub invariant-loop-port : goal.invariant-loop-port
invariant-loop-port l = record {
  left : (memory : NetMemory) → slice_get l.at.net.now.memories l.at.number ≡ Some memory → PublishesLeft l.at.net.now l.at.sources.now (λ st instant. flat_map (port_told l.at.net.now instant l.at.number memory) (take l.port memory.ports)) l.fn.draft l.draft;
  evaluates : EvaluatesOnly l.at.sources.now (IsWriteGroup l.at.net.now l.at.number) l.fn.draft l.draft;
}
