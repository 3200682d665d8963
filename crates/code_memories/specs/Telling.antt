-- Code that publishes what sinks leave to the next cycle.
use Rattle.std.specs.Prelude.{◌≡◌, ℕ, ◌<◌, ◌≤◌, nat_lt, true, List, ◌++◌, slice_get, ℤ, pos, unsigned_abs, Some, Contains, if◌then◌else◌}
use Rattle.bit_words.specs.declared.value.Value.{Value}
use Rattle.bit_words.specs.Values.{integer_of}
use Rattle.phase_core.specs.declared.model.Publication.{Publication}
use Rattle.prim_ops.specs.Ports.{Held}
use Rattle.ground_net.specs.declared.net.Net.{Net}
use Rattle.ground_net.specs.declared.net.NetRegister.{NetRegister}
use Rattle.ground_net.specs.declared.net.NetMemory.{NetMemory}
use Rattle.ground_net.specs.declared.net.ElementLeaf.{ElementLeaf}
use Rattle.ground_net.specs.Grounds.{Instant}
use Rattle.ground_net.specs.Reads.{driver_of}
use Rattle.ground_net.specs.Cones.{Sink}
use Rattle.ground_net.specs.Shapes.{shape}
use Rattle.ground_net.specs.Cycles.{NetState}
use Rattle.code_memories.specs.Nexts.{next_ground}
use Rattle.partition_code.specs.Effects.{register_shape, sinks_told, HasWord}
use Rattle.code_draft.specs.declared.draft.Draft.{Draft}
use Rattle.code_draft.specs.Drafts.{IsDraft, Solved, written_in, pushed_in}
use Rattle.code_draft.specs.declared.sources.Sources.{Sources}
use Rattle.code_emit.specs.Emits.{sources_table, Sees, AreSources}

-- what is held at an address, and 0 past the depth
abbrev pub contents_at : Held ℕ → ℕ → ℕ → ℕ → ℤ
contents_at held depth k a = if nat_lt a depth then held a k else pos 0

-- An instant shows a state: the leaf of a register shows what the register holds, and a leaf of a memory, at an address, what the element
-- holds, and 0 past the depth. (The leaves of captured reads aren't asked: what they show next is no matter of what they show.)
pub record ShowsState (net : Net) (st : NetState) (instant : Instant) : Type 0 where
  pub registers : (n : ℕ) (register : NetRegister) → slice_get net.registers n ≡ Some register → integer_of (instant.leaf register.leaf) ≡ st.registers n
  pub contents : (m k : ℕ) (memory : NetMemory) (leaf : ElementLeaf) (address : Value) → slice_get net.memories m ≡ Some memory → slice_get memory.elements k ≡ Some leaf
      → integer_of (instant.load m k address) ≡ contents_at (st.contents m) memory.depth k (unsigned_abs (integer_of address))

-- What a cycle leaves, of the state that it begins with and of what is seen in it.
abbrev pub Left : Type 0
Left = NetState → Instant → List Publication

-- Code that goes on from other code, and publishes besides what a cycle leaves, at every instant that the sources show and that shows
-- the cycle's state.
pub record TellsLeft (net : Net) (S : Sources) (left : Left) (old new : Draft) : Type 0 where
  pub is : IsDraft new
  pub are : AreSources S new
  pub words : new.words ≡ old.words
  pub slots : old.slots ≤ new.slots
  pub stays : (k : ℕ) → written_in old k ≡ true → written_in new k ≡ true
  pub back : (words : List ℕ) (inputs : List Value) (F : List ℕ) → Solved new words inputs F → Solved old words inputs F
  pub tells : (words : List ℕ) (inputs : List Value) (F : List ℕ) (instant : Instant) (st : NetState) → Solved new words inputs F → Sees S words inputs F instant → ShowsState net st instant
      → pushed_in new F ≡ pushed_in old F ++ left st instant

-- what it publishes besides is what these sinks leave, in order
abbrev pub TellsSinks : Net → Sources → List Sink → Draft → Draft → Type 0
TellsSinks net S these old new = TellsLeft net S (λ st instant. sinks_told net st instant these) old new

-- the words of these sinks are among the shared words
abbrev pub HaveWords : Net → ℕ → List Sink → Type 0
HaveWords net words these = (sink : Sink) (i : ℕ) → Contains these sink → HasWord net sink i → i < words

abbrev pub PublishesSinks : Net → Sources → List Sink → Draft → Draft → Type 0
PublishesSinks net S these old new = IsDraft old → AreSources S old → HaveWords net old.words these → TellsSinks net S these old new

-- The sources have all that the next value of a register mentions, and it has the register's kind and width.
pub record IsNextShaped (net : Net) (S : Sources) (n : ℕ) : Type 0 where
  pub register : NetRegister
  pub there : slice_get net.registers n ≡ Some register
  pub shaped : shape (next_ground register (driver_of net register.leaf)) (sources_table S) ≡ Some (register_shape net register)
