-- Sinks and cones (Wang and others, "RepCut: Superlinear Parallel RTL Simulation with Replication-Aided Partitioning").
--
-- A sink is what a cycle leaves behind: a watched leaf, a leaf of a register, or a memory with its captured reads. The cone of a
-- sink is all that has to be evaluated for it.
use Rattle.std.specs.Prelude.{ℕ, suc, ◌==◌, List, [], ◌∷◌, ◌++◌, map, filter_map, flat_map, zip, length, slice_get, Contains, Option, Some, None, if◌then◌else◌}
use Rattle.std.specs.List.{range_with_len}
use Rattle.ground_net.specs.declared.ground.Ground.{Ground}
use Rattle.ground_net.specs.declared.net.Net.{Net}
use Rattle.ground_net.specs.declared.net.NetRegister.{NetRegister}
use Rattle.ground_net.specs.declared.net.NetReset.{NetReset}
use Rattle.ground_net.specs.declared.net.NetMemory.{NetMemory}
use Rattle.ground_net.specs.declared.net.NetPort.{NetPort}
use Rattle.ground_net.specs.declared.net.NetWrite.{NetWrite}
use Rattle.ground_net.specs.declared.net.NetRead.{NetRead}
use Rattle.ground_net.specs.Grounds.{mentions}
use Rattle.ground_net.specs.Reads.{IsAssigned, Reads, driver_of}

-- A watched leaf by its number, a register and a memory by their places in the net.
pub data Sink : Type 0 where
  A_watched : ℕ → Sink
  A_register : ℕ → Sink
  A_memory : ℕ → Sink

-- each item with its number, from 0
abbrev pub numbered : {A : Type 0} → List A → List (ℕ × A)
numbered items = zip (range_with_len 0 (length items)) items

-- the memory, where so many leaves stand before it; the register, where this is its leaf
abbrev pub memory_before : ℕ → ℕ × NetMemory → Option Sink
memory_before x both = if both.1.before == x then Some (A_memory both.0) else None

abbrev pub register_at : ℕ → ℕ × NetRegister → Option Sink
register_at x both = if both.1.leaf == x then Some (A_register both.0) else None

-- the memories that stand directly before a leaf, and then the leaf itself where it is a register's
abbrev pub sinks_at : Net → ℕ → List Sink
sinks_at net x = filter_map (memory_before x) (numbered net.memories) ++ filter_map (register_at x) (numbered net.registers)

-- The sinks in order: the watched leaves in watch order, and then, in flat order, each register's leaf and each memory.
abbrev pub sinks : Net → List ℕ → List Sink
sinks net watch = map (λ x. A_watched x) watch ++ flat_map (sinks_at net) (range_with_len 0 (suc (length net.leaves)))

-- the leaves that an expression mentions, where there is one
abbrev pub mentioned_by : Option Ground → List ℕ
mentioned_by (Some driver) = mentions driver
mentioned_by None = []

abbrev pub mentioned_by_reset : Option NetReset → List ℕ
mentioned_by_reset (Some r) = mentions r.reset ++ mentions r.init
mentioned_by_reset None = []

-- a register needs what its driver, its reset and its `init` mention
abbrev pub register_needs : Net → NetRegister → List ℕ
register_needs net register = mentioned_by (driver_of net register.leaf) ++ mentioned_by_reset register.reset

-- the leaf, where there is one
abbrev pub or_no_leaf : Option ℕ → List ℕ
or_no_leaf (Some x) = x ∷ []
or_no_leaf None = []

-- a port that writes needs all of its leaves but the read data; one that only reads, and keeps what it has read, its address and
-- its enable
abbrev pub reads_need : NetPort → Option NetRead → List ℕ
reads_need port (Some read) = if read.captured then port.addr ∷ port.en ∷ [] else []
reads_need port None = []

abbrev pub port_needs : NetPort → Option NetWrite → List ℕ
port_needs port (Some write) = port.addr ∷ port.en ∷ or_no_leaf port.mode ++ (write.leaves ++ write.masks)
port_needs port None = reads_need port port.read

-- a memory needs what its ports do
abbrev pub memory_needs : NetMemory → List ℕ
memory_needs memory = flat_map (λ port. port_needs port port.write) memory.ports

abbrev pub needs_of_register : Net → Option NetRegister → List ℕ
needs_of_register net (Some register) = register_needs net register
needs_of_register net None = []

abbrev pub needs_of_memory : Option NetMemory → List ℕ
needs_of_memory (Some memory) = memory_needs memory
needs_of_memory None = []

-- What a sink needs itself.
abbrev pub needs : Net → Sink → List ℕ
needs net (A_watched x) = x ∷ []
needs net (A_register k) = needs_of_register net (slice_get net.registers k)
needs net (A_memory m) = needs_of_memory (slice_get net.memories m)

-- The cone of a sink: the assignments that it needs, and all assignments that those read.
pub data InCone (net : Net) (sink : Sink) : ℕ → Type 0 where
  needed : {x : ℕ} → Contains (needs net sink) x → IsAssigned net.leaves x → InCone net sink x
  behind : {x y : ℕ} → InCone net sink x → Reads net x y → IsAssigned net.leaves y → InCone net sink y
