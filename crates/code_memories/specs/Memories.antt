-- What the sources must have for the code of a memory.
use Rattle.std.specs.Prelude.{◌≡◌, ◌==◌, ℕ, List, [], slice_get, Option, Some, None, Contains, if◌then◌else◌}
use Rattle.phase_core.specs.declared.model.Publication.{Publication}
use Rattle.prim_ops.specs.Values.{fitted}
use Rattle.ground_net.specs.declared.net.Net.{Net}
use Rattle.ground_net.specs.declared.net.NetMemory.{NetMemory}
use Rattle.ground_net.specs.declared.net.NetPort.{NetPort}
use Rattle.ground_net.specs.declared.net.NetRead.{NetRead}
use Rattle.ground_net.specs.declared.net.ElementLeaf.{ElementLeaf}
use Rattle.ground_net.specs.Grounds.{Instant}
use Rattle.ground_net.specs.Cones.{A_memory, needs}
use Rattle.ground_net.specs.Cycles.{NetState, Capture, captures, next_of_capture}
use Rattle.ground_net.specs.Nets.{table_of}
use Rattle.ground_net.specs.Words.{captured_word}
use Rattle.flat_code.specs.Meaning.{stored}
use Rattle.code_draft.specs.declared.sources.Source.{Source}
use Rattle.code_draft.specs.declared.sources.Source.TheVariants as source
use Rattle.code_draft.specs.declared.sources.Kept.{Kept}
use Rattle.code_draft.specs.declared.sources.Elements.{Elements}
use Rattle.code_draft.specs.declared.sources.Sources.{Sources}
use Rattle.code_emit.specs.Emits.{sources_table, leaf_source, element_source, kept_shape}
use Rattle.partition_code.specs.FromNets.{HasElements}
use Rattle.partition_code.specs.Effects.{capture_shape}

-- a captured read stands in its own words
pub record StandsCaptured (net : Net) (S : Sources) (n : ℕ) (c : Capture) : Type 0 where
  pub kept : Kept
  pub there : leaf_source S c.leaf ≡ Some (source.Word kept)
  pub shape : kept_shape kept ≡ capture_shape net c
  pub word : kept.number ≡ captured_word net n

-- leaf k of the elements of memory m stands in the memory's words
pub record StandsInMemory (net : Net) (S : Sources) (m k : ℕ) : Type 0 where
  pub source : Elements
  pub there : element_source S m k ≡ Some source
  pub has : HasElements net m k source

-- Each leaf that the memory needs has a source of its kind and width, each leaf of its elements has the memory's words, and each of its
-- captured reads has its own.
pub record HasMemory (net : Net) (S : Sources) (m : ℕ) : Type 0 where
  pub memory : NetMemory
  pub there : slice_get net.memories m ≡ Some memory
  pub leaves : (x : ℕ) → Contains (needs net (A_memory m)) x → (sources_table S).leaf x ≡ (table_of net).leaf x
  pub elements : (k : ℕ) (leaf : ElementLeaf) → slice_get memory.elements k ≡ Some leaf → StandsInMemory net S m k
  pub captured : (n : ℕ) (c : Capture) → slice_get (captures net) n ≡ Some c → c.number ≡ m → StandsCaptured net S n c

-- the word in which a leaf stands
abbrev pub word_of : Option Source → ℕ
word_of (Some (source.Word kept)) = kept.number
word_of _ = 0

-- the captured read of a leaf of an element, by the numbers of both leaves
abbrev pub capture_of : ℕ → NetMemory → NetPort → NetRead → ℕ × ℕ → Capture
capture_of m memory port read both = record { number = m; memory = memory; port = port; after = read.after; element = both.0; leaf = both.1 }

-- what a captured read of this memory leaves, from the word on in which its leaf stands
abbrev pub capture_left : Net → Sources → NetState → Instant → ℕ → Capture → List Publication
capture_left net S st instant m c =
    if c.number == m then stored (word_of (leaf_source S c.leaf)) (fitted (capture_shape net c).kind (capture_shape net c).width (next_of_capture st instant (Some c))) else []
