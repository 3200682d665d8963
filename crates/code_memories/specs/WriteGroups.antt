-- What the code of a memory's writes evaluates.
use Rattle.std.specs.Prelude.{◌≡◌, ℕ, List, ◌∷◌, map, slice_get, Some}
use Rattle.ground_net.specs.declared.ground.Ground.{Ground}
use Rattle.ground_net.specs.declared.ground.Ground.TheVariants.{Leaf}
use Rattle.ground_net.specs.declared.net.Net.{Net}
use Rattle.ground_net.specs.declared.net.NetMemory.{NetMemory}
use Rattle.ground_net.specs.declared.net.NetPort.{NetPort}
use Rattle.ground_net.specs.declared.net.NetWrite.{NetWrite}
use Rattle.code_memories.specs.Writes.{conditions_of}

-- The leaves of a write into a leaf of the elements of the memory of this number: its address, its data and its conditions.
pub record IsWriteGroup (net : Net) (m : ℕ) (gs : List Ground) : Type 0 where
  pub memory : NetMemory
  pub there : slice_get net.memories m ≡ Some memory
  pub p : ℕ
  pub port : NetPort
  pub listed : slice_get memory.ports p ≡ Some port
  pub write : NetWrite
  pub writes : port.write ≡ Some write
  pub k : ℕ
  pub mask : ℕ
  pub masked : slice_get write.masks k ≡ Some mask
  pub source : ℕ
  pub sourced : slice_get write.leaves k ≡ Some source
  pub is : gs ≡ Leaf port.addr ∷ Leaf source ∷ map (λ x. Leaf x) (conditions_of port mask)
