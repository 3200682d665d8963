-- A flat circuit as a net (FIRRTL specification 3.0, "Memories"): data that a port reads in the same cycle are loads, and data that
-- come a cycle later are captured.
use Rattle.std.specs.Prelude.{◌≡◌, ℕ, ◌==◌, Bool, true, false, List, [], ◌∷◌, map, flat_map, fold, take, zip, count_by, length, slice_get, Option, Some, None, pos, if◌then◌else◌}
use Rattle.std.specs.List.{range_with_len}
use Rattle.bit_words.specs.declared.value.Kind.TheVariants.{Unsigned}
use Rattle.bit_words.specs.declared.value.Value.{Value}
use Rattle.prim_ops.specs.Values.{fitted}
use Rattle.ground_net.specs.declared.ground.Ground.{Ground}
use Rattle.ground_net.specs.declared.ground.Ground.TheVariants as expression
use Rattle.ground_net.specs.declared.circuit.GroundLeaf.{GroundLeaf}
use Rattle.ground_net.specs.declared.circuit.GroundRole.{GroundRole}
use Rattle.ground_net.specs.declared.circuit.GroundRole.TheVariants.{Input, Clock, Register, Plain}
use Rattle.ground_net.specs.declared.circuit.GroundMemory.{GroundMemory}
use Rattle.ground_net.specs.declared.circuit.FlatCircuit.{FlatCircuit}
use Rattle.ground_net.specs.declared.net.Leaf.{Leaf}
use Rattle.ground_net.specs.declared.net.Role.{Role}
use Rattle.ground_net.specs.declared.net.Role.TheVariants as role
use Rattle.ground_net.specs.declared.net.Net.{Net}
use Rattle.ground_net.specs.declared.net.NetMemory.{NetMemory}
use Rattle.ground_net.specs.declared.net.NetPort.{NetPort}
use Rattle.ground_net.specs.declared.net.NetRead.{NetRead}
use Rattle.ground_net.specs.Reads.{lone_driver, driver_of}
use Rattle.ground_net.specs.Cones.{numbered}
use Rattle.ground_net.specs.Words.{SaysItsWords}
use Rattle.memory_ports.specs.declared.reads.ReadData.{ReadData}
use Rattle.memory_ports.specs.declared.reads.ReadData.TheVariants as read_data

-- Read data

-- 0 of one bit
abbrev pub zero_bit : Value
zero_bit = fitted Unsigned 1 (pos 0)

-- A reader reads where its `en` is 1; a readwriter where its `en` is 1 and its `wmode` is 0.
abbrev pub reading : ℕ → Option ℕ → Ground
reading en None = expression.Leaf en
reading en (Some wmode) = expression.Mux (expression.Leaf wmode ∷ expression.Const zero_bit ∷ expression.Leaf en ∷ [])

-- Leaf k of the element of memory m at the port's address, where the port reads.
abbrev pub load_of : ℕ → ℕ → NetPort → Ground
load_of m k port = expression.Load m k (expression.Leaf port.addr ∷ reading port.en port.mode ∷ [])

-- data of latency 1 are captured, and others are loads
abbrev pub data_of : ℕ → ℕ → NetPort → NetRead → ReadData
data_of m k port read = if read.captured then read_data.Captured else read_data.Load (load_of m k port)

-- A leaf, by its number, with the data that it shows.
abbrev pub Shows : Type 0
Shows = ℕ × ReadData

-- what a port reads, leaf by leaf of an element
abbrev pub reads_of_port : ℕ → NetPort → Option NetRead → List Shows
reads_of_port m port (Some read) = map (λ both. (both.1, data_of m both.0 port read)) (numbered read.leaves)
reads_of_port m port None = []

-- What all ports read: memory by memory, port by port in declared order, and leaf by leaf.
abbrev pub reads_of : List GroundMemory → List Shows
reads_of memories = flat_map (λ both. flat_map (λ port. reads_of_port both.0 port port.read) both.1.ports) (numbered memories)

-- Leaf x is leaf k of what port p of memory m reads.
pub record IsRead (memories : List GroundMemory) (m p k x : ℕ) (memory : GroundMemory) (port : NetPort) (read : NetRead) : Type 0 where
  pub there : slice_get memories m ≡ Some memory
  pub has : slice_get memory.ports p ≡ Some port
  pub reads : port.read ≡ Some read
  pub leaf : slice_get read.leaves k ≡ Some x

-- the data of a leaf: those of the last read that names it, else these
abbrev pub last_data : List Shows → ℕ → Option ReadData → Option ReadData
last_data reads x before = fold (λ last read. if read.0 == x then Some read.1 else last) before reads

-- The data that each leaf shows, where it shows what a port reads.
abbrev pub data_in : FlatCircuit → List (Option ReadData)
data_in flat = map (λ x. last_data (reads_of flat.memories) x None) (range_with_len 0 (length flat.leaves))

-- Roles

-- What a leaf is in a cycle: an input of main, a Clock, a register's leaf, captured data, or an assignment.
pub data Part : Type 0 where
  Given : Part
  Without_value : Part
  Held : Part
  Kept : Part
  Driven : Part

abbrev pub is_given : Part → Bool
is_given Given = true
is_given _ = false

abbrev pub is_held : Part → Bool
is_held Held = true
is_held _ = false

abbrev pub is_kept : Part → Bool
is_kept Kept = true
is_kept _ = false

abbrev pub part_of : GroundRole → Option ReadData → Part
part_of Input shown = Given
part_of Clock shown = Without_value
part_of Register shown = Held
part_of Plain (Some read_data.Captured) = Kept
part_of Plain (Some (read_data.Load g)) = Driven
part_of Plain None = Driven

-- The part of each leaf.
abbrev pub parts_of : List GroundLeaf → List (Option ReadData) → List Part
parts_of leaves shown = map (λ both. part_of both.0.role both.1) (zip leaves shown)

-- The role of a leaf behind leaves of these parts: the leaves of one sort of role are counted from 0.
abbrev pub role_behind : List Part → Part → Role
role_behind before Given = role.Input (count_by is_given before)
role_behind before Without_value = role.Clock
role_behind before Held = role.Register (count_by is_held before)
role_behind before Kept = role.Captured (count_by is_kept before)
role_behind before Driven = role.Assigned

-- Drivers

-- what the statements leave in a leaf
abbrev pub own_driver : FlatCircuit → ℕ → Option Ground
own_driver flat x = lone_driver (slice_get flat.drivers x)

-- Data of latency 0 have their load for a driver, and captured data none. Other leaves and registers keep their own.
abbrev pub driver_for : GroundRole → Option ReadData → Option Ground → Option Ground
driver_for Input shown own = None
driver_for Clock shown own = None
driver_for Register shown own = own
driver_for Plain None own = own
driver_for Plain (Some (read_data.Load g)) own = Some g
driver_for Plain (Some read_data.Captured) own = None

-- The net of a flat circuit

-- A leaf of the net is one of the circuit's.
pub record IsLeafOf (old : GroundLeaf) (new : Leaf) : Type 0 where
  pub name : new.name ≡ old.name
  pub kind : new.kind ≡ old.kind
  pub width : new.width ≡ old.width
  pub place : new.place ≡ old.place

-- a memory of the net as one of a circuit, whose words are not counted
abbrev pub without_word : NetMemory → GroundMemory
without_word memory = record { name = memory.name; first = memory.before; depth = memory.depth; elements = memory.elements; ports = memory.ports }

-- The net has the circuit's leaves, in their roles and with their drivers, and its registers and memories.
pub record IsPlaced (flat : FlatCircuit) (net : Net) : Type 0 where
  pub ports : net.ports ≡ flat.ports
  pub counted : length net.leaves ≡ length flat.leaves
  pub leaves : (x : ℕ) (old : GroundLeaf) (new : Leaf) → slice_get flat.leaves x ≡ Some old → slice_get net.leaves x ≡ Some new → IsLeafOf old new
  pub roles : (x : ℕ) (old : GroundLeaf) (shown : Option ReadData) (new : Leaf) → slice_get flat.leaves x ≡ Some old → slice_get (data_in flat) x ≡ Some shown → slice_get net.leaves x ≡ Some new
      → new.role ≡ role_behind (take x (parts_of flat.leaves (data_in flat))) (part_of old.role shown)
  pub drivers_counted : length net.drivers ≡ length flat.leaves
  pub drivers : (x : ℕ) (leaf : GroundLeaf) (shown : Option ReadData) → slice_get flat.leaves x ≡ Some leaf → slice_get (data_in flat) x ≡ Some shown
      → driver_of net x ≡ driver_for leaf.role shown (own_driver flat x)
  pub registers : net.registers ≡ flat.registers
  pub memories : map without_word net.memories ≡ flat.memories
  pub words : SaysItsWords net
