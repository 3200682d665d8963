-- A memory is evaluated write by write and read by read.
use Rattle.std.proofs.Common.{◌≡◌, ℕ, true, [], ◌∷◌, slice_get, Some, sym, ap, ◌∙◌, inl, inr}
use Rattle.ground_net.specs.declared.ground.Ground.{Ground}
use Rattle.ground_net.specs.declared.net.Net.{Net}
use Rattle.ground_net.specs.declared.net.NetMemory.{NetMemory}
use Rattle.ground_net.specs.declared.net.NetPort.{NetPort}
use Rattle.ground_net.specs.declared.net.NetRead.{NetRead}
use Rattle.ground_net.specs.declared.net.ElementLeaf.{ElementLeaf}
use Rattle.code_memories.specs.declared.leaf.MemoryLeaf.{MemoryLeaf}
use Rattle.code_memories.specs.NextReads.{captured_ground}
use Rattle.code_draft.specs.declared.draft.Draft.{Draft}
use Rattle.code_draft.specs.declared.sources.Sources.{Sources}
use Rattle.code_memories.specs.SinkGroups.{EvaluatesOnly}
use Rattle.code_memories.proofs.RegisterEvaluating.{more_such, such_too}
use Rattle.code_memories.proofs.Numbered.{some_same}
use Rattle.code_memories.specs.WriteGroups.{IsWriteGroup}
use Rattle.code_memories.specs.Captures.{ReadsAt}
use Rattle.code_memories.specs.Groups.{IsCaptureGroup, IsMemoryGroup}

pub late_here : (net : Net) (m p k : ℕ) → ReadsAt net m p k → (memory : NetMemory) (port : NetPort) (read : NetRead) → slice_get net.memories m ≡ Some memory → slice_get memory.ports p ≡ Some port → port.read ≡ Some read
    → read.captured ≡ true
late_here net m p k at memory port read there listed reads =
    let memory_is : at.memory ≡ memory = some_same (sym at.there ∙ there) in
    let port_is : at.port ≡ port = some_same (sym at.listed ∙ (ap (λ (y : NetMemory). slice_get y.ports p) memory_is ∙ listed)) in
    let read_is : at.read ≡ read = some_same (sym at.reads ∙ (ap (λ (y : NetPort). y.read) port_is ∙ reads)) in
    ap (λ (r : NetRead). r.captured) (sym read_is) ∙ at.late

pub memory_evaluated : (net : Net) (S : Sources) (m : ℕ) (a b c : Draft) → EvaluatesOnly S (IsWriteGroup net m) a b → EvaluatesOnly S (IsCaptureGroup net m) b c → EvaluatesOnly S (IsMemoryGroup net m) a c
memory_evaluated net S m a b c writes reads =
    more_such S (IsMemoryGroup net m) a b c (such_too S (IsWriteGroup net m) (IsMemoryGroup net m) a b (λ gs h. inl h) writes) (such_too S (IsCaptureGroup net m) (IsMemoryGroup net m) b c (λ gs h. inr h) reads)

-- what a captured read shows next is such a group
pub capture_group : (net : Net) (m p k : ℕ) (memory : NetMemory) (port : NetPort) (read : NetRead) (leaf : ElementLeaf) (of : MemoryLeaf) (g : Ground) → slice_get net.memories m ≡ Some memory
    → slice_get memory.ports p ≡ Some port → port.read ≡ Some read → read.captured ≡ true → slice_get memory.elements k ≡ Some leaf → of.memory ≡ m → of.number ≡ k → of.kind ≡ leaf.kind → of.width ≡ leaf.width
    → g ≡ captured_ground memory port of read.after → IsCaptureGroup net m (g ∷ [])
capture_group net m p k memory port read leaf of g there listed reads late element of_memory of_number of_kind of_width is = record {
  memory = memory;
  there = there;
  p = p;
  port = port;
  listed = listed;
  read = read;
  reads = reads;
  late = late;
  k = k;
  leaf = leaf;
  element = element;
  of = of;
  of_memory = of_memory;
  of_number = of_number;
  of_kind = of_kind;
  of_width = of_width;
  is = ap (λ h. h ∷ []) is;
}
