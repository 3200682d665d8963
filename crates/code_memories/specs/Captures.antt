-- Captured reads that stand in a net.
use Rattle.std.specs.Prelude.{◌≡◌, ℕ, true, slice_get, Some}
use Rattle.ground_net.specs.declared.net.Net.{Net}
use Rattle.ground_net.specs.declared.net.NetMemory.{NetMemory}
use Rattle.ground_net.specs.declared.net.NetPort.{NetPort}
use Rattle.ground_net.specs.declared.net.NetRead.{NetRead}
use Rattle.ground_net.specs.declared.net.ElementLeaf.{ElementLeaf}
use Rattle.code_draft.specs.declared.sources.Source.TheVariants as source
use Rattle.code_draft.specs.declared.sources.Kept.{Kept}
use Rattle.code_draft.specs.declared.sources.Sources.{Sources}
use Rattle.code_emit.specs.Emits.{leaf_source}

-- there is such a port, its reads are captured, and a leaf shows this leaf of an element
pub record ReadsAt (net : Net) (m p k : ℕ) : Type 0 where
  pub memory : NetMemory
  pub there : slice_get net.memories m ≡ Some memory
  pub port : NetPort
  pub listed : slice_get memory.ports p ≡ Some port
  pub read : NetRead
  pub reads : port.read ≡ Some read
  pub late : read.captured ≡ true
  pub shown : ℕ
  pub shows : slice_get read.leaves k ≡ Some shown
  pub leaf : ElementLeaf
  pub element : slice_get memory.elements k ≡ Some leaf

-- the leaf stands in shared words
pub record IsKept (S : Sources) (x : ℕ) : Type 0 where
  pub kept : Kept
  pub there : leaf_source S x ≡ Some (source.Word kept)
