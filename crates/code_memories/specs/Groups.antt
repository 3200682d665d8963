-- What the code of a memory evaluates.
use Rattle.std.specs.Prelude.{◌≡◌, ℕ, true, ◌⊎◌, List, [], ◌∷◌, slice_get, Some}
use Rattle.ground_net.specs.declared.ground.Ground.{Ground}
use Rattle.ground_net.specs.declared.net.Net.{Net}
use Rattle.ground_net.specs.declared.net.NetMemory.{NetMemory}
use Rattle.ground_net.specs.declared.net.NetPort.{NetPort}
use Rattle.ground_net.specs.declared.net.NetRead.{NetRead}
use Rattle.ground_net.specs.declared.net.ElementLeaf.{ElementLeaf}
use Rattle.code_memories.specs.declared.leaf.MemoryLeaf.{MemoryLeaf}
use Rattle.code_memories.specs.NextReads.{captured_ground}
use Rattle.code_memories.specs.WriteGroups.{IsWriteGroup}

-- What a captured read of a leaf of the elements of the memory of this number shows next, alone.
pub record IsCaptureGroup (net : Net) (m : ℕ) (gs : List Ground) : Type 0 where
  pub memory : NetMemory
  pub there : slice_get net.memories m ≡ Some memory
  pub p : ℕ
  pub port : NetPort
  pub listed : slice_get memory.ports p ≡ Some port
  pub read : NetRead
  pub reads : port.read ≡ Some read
  pub late : read.captured ≡ true
  pub k : ℕ
  pub leaf : ElementLeaf
  pub element : slice_get memory.elements k ≡ Some leaf
  pub of : MemoryLeaf
  pub of_memory : of.memory ≡ m
  pub of_number : of.number ≡ k
  pub of_kind : of.kind ≡ leaf.kind
  pub of_width : of.width ≡ leaf.width
  pub is : gs ≡ captured_ground memory port of read.after ∷ []

abbrev pub IsMemoryGroup : Net → ℕ → List Ground → Type 0
IsMemoryGroup net m gs = IsWriteGroup net m gs ⊎ IsCaptureGroup net m gs
