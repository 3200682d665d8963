-- Code that publishes what the ports of a memory write.
use Rattle.std.specs.Prelude.{◌≡◌, ℕ, List, [], ◌∷◌, ◌++◌, map, slice_get, Some}
use Rattle.ground_net.specs.declared.net.Net.{Net}
use Rattle.ground_net.specs.declared.net.NetMemory.{NetMemory}
use Rattle.ground_net.specs.declared.net.NetPort.{NetPort}
use Rattle.ground_net.specs.declared.net.NetWrite.{NetWrite}
use Rattle.ground_net.specs.declared.net.ElementLeaf.{ElementLeaf}
use Rattle.ground_net.specs.Cones.{or_no_leaf}
use Rattle.ground_net.specs.Shapes.{Shape}
use Rattle.flat_code.specs.Meaning.{stored_where}
use Rattle.flat_code.specs.Fine.{InRegion}
use Rattle.code_draft.specs.declared.draft.Draft.{Draft}
use Rattle.code_draft.specs.Drafts.{IsDraft}
use Rattle.code_draft.specs.declared.sources.Sources.{Sources}
use Rattle.code_emit.specs.Emits.{sources_table, AreSources}
use Rattle.code_memories.specs.Telling.{Left, TellsLeft}
use Rattle.code_memories.specs.declared.places.Target.{Target}

abbrev pub PublishesLeft : Net → Sources → Left → Draft → Draft → Type 0
PublishesLeft net S left old new = IsDraft old → AreSources S old → TellsLeft net S left old new

-- what a target gets, where these leaves are 1
abbrev pub target_left : Target → List ℕ → Left
target_left target conditions st instant = stored_where target.region (instant.leaf target.address) (instant.leaf target.source) (map (λ x. instant.leaf x) conditions)

-- the leaves that are conditions of a write: the enable, the mode of a readwriter, and the mask
abbrev pub conditions_of : NetPort → ℕ → List ℕ
conditions_of port mask = port.en ∷ (or_no_leaf port.mode ++ (mask ∷ []))

-- the words of a target are there
abbrev pub FitsTarget : Sources → Draft → Target → Type 0
FitsTarget S d target = (s : Shape) → (sources_table S).leaf target.source ≡ Some s → InRegion d.words s.width target.region

abbrev pub TellsTarget : Net → Sources → Target → List ℕ → Draft → Draft → Type 0
TellsTarget net S target conditions old new = FitsTarget S old target → PublishesLeft net S (target_left target conditions) old new

-- there is such a port
pub record IsPortAt (net : Net) (m p : ℕ) : Type 0 where
  pub memory : NetMemory
  pub there : slice_get net.memories m ≡ Some memory
  pub port : NetPort
  pub listed : slice_get memory.ports p ≡ Some port

-- there is such a port, it writes, and has data and a mask for this leaf of an element
pub record WritesAt (net : Net) (m p k : ℕ) : Type 0 where
  pub memory : NetMemory
  pub there : slice_get net.memories m ≡ Some memory
  pub port : NetPort
  pub listed : slice_get memory.ports p ≡ Some port
  pub write : NetWrite
  pub writes : port.write ≡ Some write
  pub mask : ℕ
  pub masked : slice_get write.masks k ≡ Some mask
  pub source : ℕ
  pub sourced : slice_get write.leaves k ≡ Some source
  pub leaf : ElementLeaf
  pub element : slice_get memory.elements k ≡ Some leaf
