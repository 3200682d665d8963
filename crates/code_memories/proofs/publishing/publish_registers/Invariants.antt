use Rattle.std.proofs.Common.{map, flat_map, take}
use Rattle.ground_net.specs.Cones.{A_register}
use Rattle.code_emit.specs.Spans.{EvaluatesAll}
use Rattle.code_memories.specs.Telling.{PublishesSinks}
use Rattle.code_memories.specs.SinkGroups.{register_groups}
use Rattle.code_memories.proofs.publishing.publish_registers.Given as goal

abbrev pub invariant-loop-both : goal.invariant-loop-both
invariant-loop-both l = record {
  publishes : PublishesSinks l.net l.sources (map (λ both. A_register both.0) (take l.both-index l.registers)) l.fn.draft l.draft;
  evaluates : EvaluatesAll l.sources (flat_map (λ both. register_groups l.net both.0) (take l.both-index l.registers)) l.fn.draft l.draft;
}
