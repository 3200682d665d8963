-- Well formed nets.
use Rattle.std.specs.Prelude.{◌≡◌, ℕ, ◌<◌, ◌≤◌, Bool, true, false, List, map, filter_map, length, slice_get, ℤ, Option, Some, None, IsSome, option_map}
use Rattle.std.specs.List.{range_with_len}
use Rattle.bit_words.specs.declared.value.Kind.TheVariants.{Unsigned}
use Rattle.bit_words.specs.Values.{InRange}
use Rattle.ground_net.specs.declared.ground.Ground.{Ground}
use Rattle.ground_net.specs.declared.net.Leaf.{Leaf}
use Rattle.ground_net.specs.declared.net.Role.{Role}
use Rattle.ground_net.specs.declared.net.Role.TheVariants as role
use Rattle.ground_net.specs.declared.net.Net.{Net}
use Rattle.ground_net.specs.declared.net.NetRegister.{NetRegister}
use Rattle.ground_net.specs.declared.net.NetReset.{NetReset}
use Rattle.ground_net.specs.declared.net.NetMemory.{NetMemory}
use Rattle.ground_net.specs.declared.net.ElementLeaf.{ElementLeaf}
use Rattle.ground_net.specs.declared.net.NetPort.{NetPort}
use Rattle.ground_net.specs.declared.net.NetWrite.{NetWrite}
use Rattle.ground_net.specs.declared.net.NetRead.{NetRead}
use Rattle.ground_net.specs.Reads.{IsAssigned, driver_of}
use Rattle.ground_net.specs.Cones.{numbered}
use Rattle.ground_net.specs.Shapes.{Shape, shaped, Table, shape}
use Rattle.ground_net.specs.Cycles.{NetState, Inputs, Capture, element_leaf, captures}

-- the kinds and widths of a leaf, and of a leaf of an element
abbrev pub leaf_shape : Leaf → Shape
leaf_shape leaf = shaped leaf.kind leaf.width

abbrev pub element_shape : ElementLeaf → Shape
element_shape leaf = shaped leaf.kind leaf.width

-- The kinds and widths in a net.
abbrev pub table_of : Net → Table
table_of net = record {
  leaf = λ x. option_map leaf_shape (slice_get net.leaves x);
  element = λ m k. option_map element_shape (element_leaf net m k);
}

-- the number in the role of an input
abbrev pub input_number : Role → Option ℕ
input_number (role.Input n) = Some n
input_number _ = None

-- The leaves of a sort of role in flat order, each with the number in its role.
abbrev pub numbers_in : (Role → Option ℕ) → Net → List (ℕ × ℕ)
numbers_in number net = filter_map (λ both. option_map (λ n. (both.0, n)) (number both.1.role)) (numbered net.leaves)

-- the leaf of this number has this role
pub record HasRole (net : Net) (x : ℕ) (r : Role) : Type 0 where
  pub leaf : Leaf
  pub there : slice_get net.leaves x ≡ Some leaf
  pub is : leaf.role ≡ r

-- a role in which a leaf may have a driver
abbrev pub may_be_driven : Role → Bool
may_be_driven role.Assigned = true
may_be_driven (role.Register n) = true
may_be_driven _ = false

-- the leaf of this number is a UInt
pub record IsUnsigned (net : Net) (x : ℕ) : Type 0 where
  pub leaf : Leaf
  pub there : slice_get net.leaves x ≡ Some leaf
  pub is : leaf.kind ≡ Unsigned

-- The leaves stand, one by one, for the leaves of an element, of their kinds and widths.
pub record AreElements (net : Net) (memory : NetMemory) (leaves : List ℕ) : Type 0 where
  pub counted : length leaves ≡ length memory.elements
  pub shapes : (k x : ℕ) (element : ElementLeaf) → slice_get leaves k ≡ Some x → slice_get memory.elements k ≡ Some element
      → (table_of net).leaf x ≡ Some (element_shape element)

-- A port: a reader, a writer, or a readwriter, which alone has a mode.
pub record IsPort (net : Net) (memory : NetMemory) (port : NetPort) : Type 0 where
  pub addr : IsUnsigned net port.addr
  pub en : IsUnsigned net port.en
  pub mode : (x : ℕ) → port.mode ≡ Some x → IsUnsigned net x
  pub both : (write : NetWrite) (read : NetRead) → port.write ≡ Some write → port.read ≡ Some read → IsSome port.mode
  pub of_both : (x : ℕ) → port.mode ≡ Some x → IsSome port.write × IsSome port.read
  pub written : (write : NetWrite) → port.write ≡ Some write → AreElements net memory write.leaves
  pub masks : (write : NetWrite) → port.write ≡ Some write → (length write.masks ≡ length memory.elements) × ((k x : ℕ) → slice_get write.masks k ≡ Some x → IsUnsigned net x)
  pub read : (read : NetRead) → port.read ≡ Some read → AreElements net memory read.leaves
  -- data that come in the same cycle are assignments
  pub shown : (read : NetRead) → port.read ≡ Some read → read.captured ≡ false → (k x : ℕ) → slice_get read.leaves k ≡ Some x → IsAssigned net.leaves x

-- A net is well formed.
pub record IsNet (net : Net) : Type 0 where
  pub ports : net.ports ≤ length net.leaves
  pub drivers : length net.drivers ≡ length net.leaves
  -- each assignment has a driver; besides, only a register's leaf may have one
  pub assigned : (x : ℕ) → IsAssigned net.leaves x → (driver : Ground) × (driver_of net x ≡ Some driver)
  pub undriven : (x : ℕ) (leaf : Leaf) → slice_get net.leaves x ≡ Some leaf → may_be_driven leaf.role ≡ false → driver_of net x ≡ None
  -- a driver has the kind and the width of its leaf
  pub shapes : (x : ℕ) (leaf : Leaf) (driver : Ground) → slice_get net.leaves x ≡ Some leaf → driver_of net x ≡ Some driver → shape driver (table_of net) ≡ Some (leaf_shape leaf)
  -- the inputs are counted in flat order
  pub inputs : map (λ both. both.1) (numbers_in input_number net) ≡ range_with_len 0 (length (numbers_in input_number net))
  -- the registers stand in flat order; the leaf of each has its number, and a leaf with a number is that register's
  pub register_leaves : (n : ℕ) (register : NetRegister) → slice_get net.registers n ≡ Some register → HasRole net register.leaf (role.Register n)
  pub registers : (x n : ℕ) → HasRole net x (role.Register n) → (register : NetRegister) × (slice_get net.registers n ≡ Some register) × (register.leaf ≡ x)
  pub registers_rise : (n k : ℕ) (register later : NetRegister) → n < k → slice_get net.registers n ≡ Some register → slice_get net.registers k ≡ Some later
      → register.leaf < later.leaf
  -- so do the captured reads
  pub captured_leaves : (n : ℕ) (c : Capture) → slice_get (captures net) n ≡ Some c → HasRole net c.leaf (role.Captured n)
  pub captured : (x n : ℕ) → HasRole net x (role.Captured n) → (c : Capture) × (slice_get (captures net) n ≡ Some c) × (c.leaf ≡ x)
  pub captured_rise : (n k : ℕ) (c later : Capture) → n < k → slice_get (captures net) n ≡ Some c → slice_get (captures net) k ≡ Some later → c.leaf < later.leaf
  -- inputs are leaves of main's ports
  pub given : (x n : ℕ) (leaf : Leaf) → slice_get net.leaves x ≡ Some leaf → leaf.role ≡ role.Input n → x < net.ports
  -- a reset is a UInt, and its `init` has the kind and the width of the register
  pub resets : (k : ℕ) (register : NetRegister) (r : NetReset) → slice_get net.registers k ≡ Some register → register.reset ≡ Some r
      → ((w : ℕ) × (shape r.reset (table_of net) ≡ Some (shaped Unsigned w))) × (shape r.init (table_of net) ≡ (table_of net).leaf register.leaf)
  -- the memories stand in flat order, and their ports have the leaves that they need
  pub before : (m : ℕ) (memory : NetMemory) → slice_get net.memories m ≡ Some memory → memory.before ≤ length net.leaves
  pub rising : (m n : ℕ) (memory later : NetMemory) → m < n → slice_get net.memories m ≡ Some memory → slice_get net.memories n ≡ Some later → memory.before ≤ later.before
  pub memories : (m p : ℕ) (memory : NetMemory) (port : NetPort) → slice_get net.memories m ≡ Some memory → slice_get memory.ports p ≡ Some port → IsPort net memory port

-- the kind and the width of a leaf, and those of no bits where there is none
abbrev pub shape_or_none : Option Leaf → Shape
shape_or_none (Some leaf) = leaf_shape leaf
shape_or_none None = shaped Unsigned 0

-- the kinds and widths of the registers, of a memory's elements, and of the captured reads
abbrev pub register_shapes : Net → List Shape
register_shapes net = map (λ register. shape_or_none (slice_get net.leaves register.leaf)) net.registers

abbrev pub element_shapes : NetMemory → List Shape
element_shapes memory = map element_shape memory.elements

abbrev pub captured_shapes : Net → List Shape
captured_shapes net = map (λ c. shape_or_none (slice_get net.leaves c.leaf)) (captures net)

-- The integer is in the range of a kind and a width.
abbrev pub IsIn : Shape → ℤ → Type 0
IsIn t n = InRange t.kind t.width n

-- The integers of a state are in the ranges of their leaves.
pub record IsWithin (net : Net) (s : NetState) : Type 0 where
  pub registers : (n : ℕ) (t : Shape) → slice_get (register_shapes net) n ≡ Some t → IsIn t (s.registers n)
  pub contents : (m element k : ℕ) (memory : NetMemory) (t : Shape) → slice_get net.memories m ≡ Some memory → slice_get (element_shapes memory) k ≡ Some t
      → IsIn t (s.contents m element k)
  pub captured : (n : ℕ) (t : Shape) → slice_get (captured_shapes net) n ≡ Some t → IsIn t (s.captured n)

-- The integers that are given are in the ranges of the inputs.
abbrev pub AreInputs : Net → Inputs → Type 0
AreInputs net given = (x n : ℕ) (leaf : Leaf) → slice_get net.leaves x ≡ Some leaf → leaf.role ≡ role.Input n → IsIn (leaf_shape leaf) (given n)
