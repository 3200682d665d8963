use Rattle.std.proofs.Common.{◌≡◌, Some, [], ◌∷◌, slice_get, flat_map}
use Rattle.ground_net.specs.declared.net.NetMemory.{NetMemory}
use Rattle.ground_net.specs.Cones.{A_memory}
use Rattle.ground_net.specs.Cycles.{captured_by}
use Rattle.code_memories.specs.Memories.{capture_left}
use Rattle.code_memories.specs.Telling.{PublishesSinks}
use Rattle.code_memories.specs.Writes.{PublishesLeft}
use Rattle.code_memories.proofs.Targets.{on_ok_so}
use Rattle.code_memories.proofs.Loops.{memory_done}
use Rattle.code_memories.specs.SinkGroups.{EvaluatesOnly}
use Rattle.code_memories.specs.Groups.{IsCaptureGroup, IsMemoryGroup}
use Rattle.code_memories.proofs.Evaluating.{memory_evaluated}
use Rattle.code_memories.proofs.memories.publish_memory.Goals as goal

pub returns-clause-publishes : goal.returns-clause-publishes
returns-clause-publishes c =
    let net = c.args.net.now in
    let S = c.args.sources.now in
    let m = c.args.number in
    let a = c.args.draft.now in
    let b = c.publish_writes.new.draft in
    let d = c.publish_captures.new.draft in
    on_ok_so ((memory : NetMemory) → slice_get net.memories m ≡ Some memory → PublishesLeft net S (λ st instant. flat_map (λ port. flat_map (capture_left net S st instant m) (captured_by m memory port port.read)) memory.ports) b d)
    (PublishesSinks net S (A_memory m ∷ []) a d) c.publish_captures.result c.publish_captures.ensures.left (λ reads.
    memory_done net S m c.requires.memory a b d c.in_ok-publish_writes.ensures.left reads)

pub returns-clause-evaluates : goal.returns-clause-evaluates
returns-clause-evaluates c =
    let net = c.args.net.now in
    let S = c.args.sources.now in
    let m = c.args.number in
    let a = c.args.draft.now in
    let b = c.publish_writes.new.draft in
    let d = c.publish_captures.new.draft in
    on_ok_so (EvaluatesOnly S (IsCaptureGroup net m) b d) (EvaluatesOnly S (IsMemoryGroup net m) a d) c.publish_captures.result c.publish_captures.ensures.evaluates (λ reads.
    memory_evaluated net S m a b d c.in_ok-publish_writes.ensures.evaluates reads)
