-- Flat circuits whose nets are well formed.
use Rattle.std.specs.Prelude.{◌≡◌, ℕ, ◌<◌, ◌≤◌, List, map, filter_map, length, slice_get, Option, Some, None, IsSome, option_map, option_and_then, if◌then◌else◌}
use Rattle.bit_words.specs.declared.value.Kind.TheVariants.{Unsigned}
use Rattle.ground_net.specs.declared.ground.Ground.{Ground}
use Rattle.ground_net.specs.declared.circuit.GroundLeaf.{GroundLeaf}
use Rattle.ground_net.specs.declared.circuit.GroundRole.TheVariants.{Input, Plain}
use Rattle.ground_net.specs.declared.circuit.GroundMemory.{GroundMemory}
use Rattle.ground_net.specs.declared.circuit.FlatCircuit.{FlatCircuit}
use Rattle.ground_net.specs.declared.net.ElementLeaf.{ElementLeaf}
use Rattle.ground_net.specs.declared.net.NetRegister.{NetRegister}
use Rattle.ground_net.specs.declared.net.NetReset.{NetReset}
use Rattle.ground_net.specs.declared.net.NetPort.{NetPort}
use Rattle.ground_net.specs.declared.net.NetWrite.{NetWrite}
use Rattle.ground_net.specs.declared.net.NetRead.{NetRead}
use Rattle.ground_net.specs.Cones.{numbered}
use Rattle.ground_net.specs.Shapes.{Shape, shaped, Table, shape}
use Rattle.ground_net.specs.Nets.{element_shape}
use Rattle.memory_ports.specs.Placing.{Shows, reads_of, data_in, own_driver, parts_of, Part, is_held}

-- the kind and the width of a leaf
abbrev pub ground_shape : GroundLeaf → Shape
ground_shape leaf = shaped leaf.kind leaf.width

-- The kinds and widths in a flat circuit.
abbrev pub flat_table : FlatCircuit → Table
flat_table flat = record {
  leaf = λ x. option_map ground_shape (slice_get flat.leaves x);
  element = λ m k. option_map element_shape (option_and_then (λ memory. slice_get memory.elements k) (slice_get flat.memories m));
}

-- the leaf is a UInt, of this width
abbrev pub IsUInt : FlatCircuit → ℕ → ℕ → Type 0
IsUInt flat width x = (flat_table flat).leaf x ≡ Some (shaped Unsigned width)

-- a leaf that is no input, no Clock and no register's
pub record IsPlain (flat : FlatCircuit) (x : ℕ) : Type 0 where
  pub leaf : GroundLeaf
  pub there : slice_get flat.leaves x ≡ Some leaf
  pub is : leaf.role ≡ Plain

-- The leaves stand, one by one, for the leaves of an element, of their kinds and widths.
pub record AreData (flat : FlatCircuit) (memory : GroundMemory) (leaves : List ℕ) : Type 0 where
  pub counted : length leaves ≡ length memory.elements
  pub shapes : (k x : ℕ) (element : ElementLeaf) → slice_get leaves k ≡ Some x → slice_get memory.elements k ≡ Some element → (flat_table flat).leaf x ≡ Some (element_shape element)

-- A port: a reader, a writer, or a readwriter, which alone has a mode. `en` and `wmode` have one bit.
pub record IsPortIn (flat : FlatCircuit) (memory : GroundMemory) (port : NetPort) : Type 0 where
  pub addr : (width : ℕ) × IsUInt flat width port.addr
  pub en : IsUInt flat 1 port.en
  pub mode : (x : ℕ) → port.mode ≡ Some x → IsUInt flat 1 x
  pub both : (write : NetWrite) (read : NetRead) → port.write ≡ Some write → port.read ≡ Some read → IsSome port.mode
  pub of_both : (x : ℕ) → port.mode ≡ Some x → IsSome port.write × IsSome port.read
  pub written : (write : NetWrite) → port.write ≡ Some write → AreData flat memory write.leaves
  pub masks : (write : NetWrite) → port.write ≡ Some write → (length write.masks ≡ length memory.elements) × ((k x : ℕ) → slice_get write.masks k ≡ Some x → IsUInt flat 1 x)
  pub read : (read : NetRead) → port.read ≡ Some read → AreData flat memory read.leaves
  pub plain : (read : NetRead) → port.read ≡ Some read → (k x : ℕ) → slice_get read.leaves k ≡ Some x → IsPlain flat x

-- the number of a leaf of a register
abbrev pub held_number : ℕ × Part → Option ℕ
held_number both = if is_held both.1 then Some both.0 else None

-- the numbers of the leaves of registers, in flat order
abbrev pub held_leaves : FlatCircuit → List ℕ
held_leaves flat = filter_map held_number (numbered (parts_of flat.leaves (data_in flat)))

-- A flat circuit has all that its net needs.
pub record IsSound (flat : FlatCircuit) : Type 0 where
  pub ports : flat.ports ≤ length flat.leaves
  -- inputs are leaves of main's ports
  pub inputs : (x : ℕ) (leaf : GroundLeaf) → slice_get flat.leaves x ≡ Some leaf → leaf.role ≡ Input → x < flat.ports
  -- a plain leaf that shows no read data has a driver, and drivers have the kinds and widths of their leaves
  pub driven : (x : ℕ) → IsPlain flat x → slice_get (data_in flat) x ≡ Some None → (driver : Ground) × (own_driver flat x ≡ Some driver)
  pub shapes : (x : ℕ) (leaf : GroundLeaf) (driver : Ground) → slice_get flat.leaves x ≡ Some leaf → own_driver flat x ≡ Some driver → shape driver (flat_table flat) ≡ Some (ground_shape leaf)
  -- the registers are those of the registers' leaves, in flat order; a reset is a UInt, and its `init` has the register's kind and width
  pub registers : map (λ register. register.leaf) flat.registers ≡ held_leaves flat
  pub resets : (n : ℕ) (register : NetRegister) (r : NetReset) → slice_get flat.registers n ≡ Some register → register.reset ≡ Some r
      → ((width : ℕ) × (shape r.reset (flat_table flat) ≡ Some (shaped Unsigned width))) × (shape r.init (flat_table flat) ≡ (flat_table flat).leaf register.leaf)
  -- the memories stand in flat order, and so do the leaves that show what their ports read
  pub first : (m : ℕ) (memory : GroundMemory) → slice_get flat.memories m ≡ Some memory → memory.first ≤ length flat.leaves
  pub rising : (m n : ℕ) (memory later : GroundMemory) → m < n → slice_get flat.memories m ≡ Some memory → slice_get flat.memories n ≡ Some later → memory.first ≤ later.first
  pub reads_rise : (i j : ℕ) (read later : Shows) → i < j → slice_get (reads_of flat.memories) i ≡ Some read → slice_get (reads_of flat.memories) j ≡ Some later → read.0 < later.0
  pub memories : (m p : ℕ) (memory : GroundMemory) (port : NetPort) → slice_get flat.memories m ≡ Some memory → slice_get memory.ports p ≡ Some port → IsPortIn flat memory port
