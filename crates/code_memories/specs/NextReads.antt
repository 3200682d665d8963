-- What a captured read of a memory shows next, as an expression (FIRRTL specification 3.0, "Memories").
use Rattle.std.specs.Prelude.{◌≡◌, ℕ, nat_lt, Bool, [], ◌∷◌, fold, slice_get, pos, unsigned_abs, Option, Some, None, All, if◌then◌else◌}
use Rattle.bit_words.specs.declared.value.Kind.TheVariants.{Unsigned}
use Rattle.bit_words.specs.declared.value.Value.{Value}
use Rattle.bit_words.specs.Values.{integer_of}
use Rattle.prim_ops.specs.declared.operation.PrimOp.TheVariants as op
use Rattle.prim_ops.specs.Values.{fitted}
use Rattle.prim_ops.specs.Ports.{Held}
use Rattle.ground_net.specs.declared.ground.Ground.{Ground}
use Rattle.ground_net.specs.declared.ground.Ground.TheVariants.{Const, Leaf, Op, Mux, Load}
use Rattle.ground_net.specs.declared.net.NetMemory.{NetMemory}
use Rattle.ground_net.specs.declared.net.NetPort.{NetPort}
use Rattle.ground_net.specs.declared.net.NetWrite.{NetWrite}
use Rattle.ground_net.specs.Grounds.{Instant}
use Rattle.ground_net.specs.Shapes.{Shape, shaped, Table}
use Rattle.ground_net.specs.Cycles.{written_leaf, mask_leaf}
use Rattle.code_memories.specs.declared.leaf.MemoryLeaf.{MemoryLeaf}

-- 1 and 0 of one bit
abbrev pub one_bit : Value
one_bit = fitted Unsigned 1 (pos 1)

abbrev pub zero_bit : Value
zero_bit = fitted Unsigned 1 (pos 0)

-- 1 where the leaf is 1 and the rest is
abbrev pub both_ground : ℕ → Ground → Ground
both_ground x rest = Mux (Leaf x ∷ rest ∷ Const zero_bit ∷ [])

-- 1 where the leaf isn't 1 and the rest is
abbrev pub unless_ground : ℕ → Ground → Ground
unless_ground x rest = Mux (Leaf x ∷ Const zero_bit ∷ rest ∷ [])

-- 1 where a port of this enable and mode is set to write, or to read, and the rest is 1
abbrev pub writing_ground : ℕ → Option ℕ → Ground → Ground
writing_ground en None rest = both_ground en rest
writing_ground en (Some mode) rest = both_ground en (both_ground mode rest)

abbrev pub reading_ground : ℕ → Option ℕ → Ground → Ground
reading_ground en None rest = both_ground en rest
reading_ground en (Some mode) rest = both_ground en (unless_ground mode rest)

-- whether two leaves show one number, and one shows a number below a constant
abbrev pub same_ground : ℕ → ℕ → Ground
same_ground x y = Op op.Eq (Leaf x ∷ Leaf y ∷ []) []

abbrev pub below_ground : ℕ → Value → Ground
below_ground x bound = Op op.Lt (Leaf x ∷ Const bound ∷ []) []

-- What a port leaves in a leaf of the element at an address, over what was held there: its data where it is set to write, the leaf's
-- mask is 1, and its own address is the same.
abbrev pub over_leaf : ℕ → NetPort → Option ℕ → Option ℕ → Ground → Ground
over_leaf addr port None source held = held
over_leaf addr port (Some mask) None held = held
over_leaf addr port (Some mask) (Some source) held = Mux (writing_ground port.en port.mode (both_ground mask (same_ground port.addr addr)) ∷ Leaf source ∷ held ∷ [])

abbrev pub over_ground : ℕ → ℕ → NetPort → Ground → Ground
over_ground addr k port held = over_leaf addr port (mask_leaf port.write k) (written_leaf port.write k) held

-- the leaf of the element at an address
abbrev pub there_ground : ℕ → MemoryLeaf → Ground
there_ground addr of = Load of.memory of.number (Leaf addr ∷ Const one_bit ∷ [])

-- What a port reads before the writes, and after them.
abbrev pub before_ground : NetPort → MemoryLeaf → Ground
before_ground port of = Load of.memory of.number (Leaf port.addr ∷ reading_ground port.en port.mode (Const one_bit) ∷ [])

abbrev pub after_ground : NetMemory → NetPort → MemoryLeaf → Ground
after_ground memory port of = Mux (
    reading_ground port.en port.mode (below_ground port.addr (fitted Unsigned 128 (pos memory.depth)))
    ∷ fold (λ held writer. over_ground port.addr of.number writer held) (there_ground port.addr of) memory.ports
    ∷ Const (fitted of.kind of.width (pos 0))
    ∷ [])

abbrev pub captured_ground : NetMemory → NetPort → MemoryLeaf → Bool → Ground
captured_ground memory port of after = if after then after_ground memory port of else before_ground port of

-- What has to have a kind and a width

-- a leaf is a UInt
pub record IsUInt (table : Table) (x : ℕ) : Type 0 where
  pub width : ℕ
  pub there : table.leaf x ≡ Some (shaped Unsigned width)

-- the leaves by which a port reads
pub record HasReader (table : Table) (port : NetPort) : Type 0 where
  pub addr : IsUInt table port.addr
  pub en : IsUInt table port.en
  pub mode : (x : ℕ) → port.mode ≡ Some x → IsUInt table x

-- and those by which a port writes leaf k of an element, of this kind and width
pub record HasWriter (table : Table) (k : ℕ) (s : Shape) (port : NetPort) (write : NetWrite) : Type 0 where
  pub reader : HasReader table port
  pub mask : (x : ℕ) → slice_get write.masks k ≡ Some x → IsUInt table x
  pub source : (x : ℕ) → slice_get write.leaves k ≡ Some x → table.leaf x ≡ Some s
  pub both : (x : ℕ) → slice_get write.masks k ≡ Some x → (d : ℕ) × (slice_get write.leaves k ≡ Some d)

-- All that a captured read of this leaf by a port mentions.
pub record HasCapture (table : Table) (memory : NetMemory) (port : NetPort) (of : MemoryLeaf) : Type 0 where
  pub reader : HasReader table port
  pub element : table.element of.memory of.number ≡ Some (shaped of.kind of.width)
  pub writers : All (λ writer. (write : NetWrite) → writer.write ≡ Some write → HasWriter table of.number (shaped of.kind of.width) writer write) memory.ports

-- The leaf of the element at an address shows what is held there, and 0 past the depth.
abbrev pub ShowsHeld : Instant → NetMemory → MemoryLeaf → Held ℕ → Type 0
ShowsHeld instant memory of held = (address : Value)
    → integer_of (instant.load of.memory of.number address) ≡ (if nat_lt (unsigned_abs (integer_of address)) memory.depth then held (unsigned_abs (integer_of address)) of.number else pos 0)
