use Rattle.std.proofs.Common.{◌≡◌, Some, take, flat_map, slice_get}
use Rattle.ground_net.specs.declared.net.NetMemory.{NetMemory}
use Rattle.ground_net.specs.Cycles.{captured_by}
use Rattle.code_memories.specs.Memories.{capture_left}
use Rattle.code_memories.specs.Writes.{PublishesLeft}
use Rattle.code_memories.specs.SinkGroups.{EvaluatesOnly}
use Rattle.code_memories.specs.Groups.{IsCaptureGroup}
use Rattle.code_memories.proofs.captures.publish_captures.Given as goal

abbrev pub invariant-loop-port : goal.invariant-loop-port
invariant-loop-port l = record {
  left : (memory : NetMemory) → slice_get l.at.net.now.memories l.at.number ≡ Some memory
      → PublishesLeft l.at.net.now l.at.sources.now (λ st instant. flat_map (λ port. flat_map (capture_left l.at.net.now l.at.sources.now st instant l.at.number) (captured_by l.at.number memory port port.read)) (take l.port memory.ports)) l.fn.draft l.draft;
  evaluates : EvaluatesOnly l.at.sources.now (IsCaptureGroup l.at.net.now l.at.number) l.fn.draft l.draft;
}
