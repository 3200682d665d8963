use Rattle.std.proofs.Common.{◌≡◌, ℕ, [], ◌∷◌, Some, slice_get, sym, refl, arith}
use Rattle.ground_net.specs.declared.net.NetMemory.{NetMemory}
use Rattle.ground_net.specs.declared.net.NetPort.{NetPort}
use Rattle.ground_net.specs.declared.net.NetRead.{NetRead}
use Rattle.ground_net.specs.Shapes.{shape, shaped}
use Rattle.code_emit.specs.Emits.{sources_table}
use Rattle.code_draft.specs.Publishing.{Publishes}
use Rattle.code_memories.specs.Memories.{capture_of, capture_left}
use Rattle.code_memories.specs.Writes.{PublishesLeft}
use Rattle.code_memories.proofs.Targets.{on_ok_so}
use Rattle.code_memories.proofs.Written.{some_is}
use Rattle.code_memories.proofs.Loops.{kept_here, has_here, capture_done}
use Rattle.flat_code.specs.Fine.{location_slots}
use Rattle.code_draft.specs.Segments.{Segment}
use Rattle.code_emit.proofs.Spanning.{one_told}
use Rattle.code_memories.specs.SinkGroups.{EvaluatesOnly}
use Rattle.code_memories.proofs.RegisterEvaluating.{one_such}
use Rattle.code_memories.specs.Groups.{IsCaptureGroup}
use Rattle.code_memories.proofs.Evaluating.{late_here, capture_group}
use Rattle.code_memories.proofs.Numbers.{leaf_small}
use Rattle.code_memories.proofs.captures.publish_capture.Goals as goal

pub overflow_cast-of : goal.overflow_cast-of
overflow_cast-of c =
    let net = c.args.at.memory.net.now in
    let at = c.args.at in
    let memory = c.memory_of-memory.result.now in
    let there = c.memory_of-memory.ensures in
    let port = c.port_of-port.result.now in
    let listed = c.port_of-port.ensures in
    let read = c.in-Some.read in
    let reads = c.in-Some.is in
    let small = leaf_small net at.memory.number at.port at.leaf memory port read c.in-Some-get.shown.now c.requires.few there listed reads (late_here net at.memory.number at.port at.leaf c.requires.there memory port read there listed reads)
    (sym c.in-Some-get.ensures.value) in
    omega (arith, small)

pub word_of-word-requires : goal.word_of-word-requires
word_of-word-requires c =
    kept_here c.args.at.memory.net.now c.args.at.memory.sources.now c.args.at.memory.number c.requires.net c.requires.memory c.memory_of-memory.result.now c.memory_of-memory.ensures c.args.at.port c.port_of-port.result.now c.port_of-port.ensures c.in-Some.read c.in-Some.is
    c.args.at.leaf c.in-Some-get.shown.now c.in-Some-get-2.element.now (sym c.in-Some-get.ensures.value) (sym c.in-Some-get-2.ensures.value) c.requires.there

pub emit-requires : goal.emit-requires
emit-requires c =
    let S = c.args.at.memory.sources.now in
    let element = c.in-Some-get-2.element.now in
    some_is (shape c.in_ok-next.next (sources_table S)) (shaped element.kind element.width) (c.in_ok-next.ensures.shape (sources_table S)
    (has_here c.args.at.memory.net.now S c.args.at.memory.number c.requires.net c.requires.memory c.memory_of-memory.result.now c.memory_of-memory.ensures c.args.at.port c.port_of-port.result.now c.port_of-port.ensures c.in-Some.read c.in-Some.is
    c.args.at.leaf c.in-Some-get.shown.now element (sym c.in-Some-get.ensures.value) (sym c.in-Some-get-2.ensures.value) c.requires.there (record { memory = c.args.at.memory.number; number = c.args.at.leaf; kind = element.kind; width = element.width; narrow = _ }) refl refl refl))

pub returns-clause-left : goal.returns-clause-left
returns-clause-left c =
    let net = c.args.at.memory.net.now in
    let S = c.args.at.memory.sources.now in
    let m = c.args.at.memory.number in
    let p = c.args.at.port in
    let k = c.args.at.leaf in
    let memory = c.memory_of-memory.result.now in
    let there = c.memory_of-memory.ensures in
    let port = c.port_of-port.result.now in
    let listed = c.port_of-port.ensures in
    let read = c.in-Some.read in
    let reads = c.in-Some.is in
    let x = c.in-Some-get.shown.now in
    let at = sym c.in-Some-get.ensures.value in
    let element = c.in-Some-get-2.element.now in
    let element_there = sym c.in-Some-get-2.ensures.value in
    let g = c.in_ok-next.next in
    let s = c.in_ok-location.location in
    let mid = c.emit.new.draft in
    let new = c.publish.new.draft in
    let old = c.args.draft.now in
    on_ok_so (Publishes mid new c.word_of-word.result s)
    ((other : NetMemory) (its : NetPort) (rd : NetRead) (sh : ℕ) → slice_get net.memories m ≡ Some other → slice_get other.ports p ≡ Some its → its.read ≡ Some rd → slice_get rd.leaves k ≡ Some sh
    → PublishesLeft net S (λ st instant. capture_left net S st instant m (capture_of m other its rd (k, sh))) old new)
    c.publish.result c.publish.ensures.publishes (λ told.
    capture_done net S m c.requires.net c.requires.memory memory there p port listed read reads k x element at element_there c.requires.there (record { memory = m; number = c.args.at.leaf; kind = element.kind; width = element.width; narrow = _ }) g old mid new s c.word_of-word.result refl refl refl c.in_ok-next.ensures.value
    (c.in_ok-next.ensures.shape (sources_table S) (has_here net S m c.requires.net c.requires.memory memory there p port listed read reads k x element at element_there c.requires.there (record { memory = m; number = c.args.at.leaf; kind = element.kind; width = element.width; narrow = _ }) refl refl refl))
    c.in_ok-location.ensures.shape c.in_ok-location.ensures.emits told c.word_of-word.ensures)

pub returns-clause-evaluates : goal.returns-clause-evaluates
returns-clause-evaluates c =
    let net = c.args.at.memory.net.now in
    let S = c.args.at.memory.sources.now in
    let m = c.args.at.memory.number in
    let p = c.args.at.port in
    let k = c.args.at.leaf in
    let memory = c.memory_of-memory.result.now in
    let there = c.memory_of-memory.ensures in
    let port = c.port_of-port.result.now in
    let listed = c.port_of-port.ensures in
    let read = c.in-Some.read in
    let element = c.in-Some-get-2.element.now in
    let g = c.in_ok-next.next in
    let s = c.in_ok-location.location in
    let old = c.args.draft.now in
    let mid = c.emit.new.draft in
    let new = c.publish.new.draft in
    on_ok_so (Segment mid new (location_slots s) [] 0) (EvaluatesOnly S (IsCaptureGroup net m) old new) c.publish.result c.publish.ensures.segment (λ told.
    one_such S (IsCaptureGroup net m) (g ∷ []) old new
    (capture_group net m p k memory port read element (record { memory = m; number = c.args.at.leaf; kind = element.kind; width = element.width; narrow = element.narrow }) g there listed c.in-Some.is
    (late_here net m p k c.requires.there memory port read there listed c.in-Some.is) (sym c.in-Some-get-2.ensures.value) refl refl refl refl c.in_ok-next.ensures.itself)
    (one_told S g old mid new s c.in_ok-location.ensures.spans told))
