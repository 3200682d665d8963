-- How many slots the code of a part may take: by its assignments that are live at once, and by its largest driver.
--
-- A slot has 64 bits, and a value at most 128. So an assignment takes at most two slots, and so does each node of a driver.
use Rattle.std.specs.Prelude.{ℕ, suc, ◌+◌, ◌*◌, max, List, [], ◌∷◌, ◌++◌, map, filter, flat_map, length, take, drop, slice_get, Option, Some, None, if◌then◌else◌}
use Rattle.std.specs.List.{range_with_len}
use Rattle.ground_net.specs.declared.ground.Ground.{Ground}
use Rattle.ground_net.specs.declared.net.Net.{Net}
use Rattle.ground_net.specs.declared.net.NetRegister.{NetRegister}
use Rattle.ground_net.specs.declared.net.NetReset.{NetReset}
use Rattle.ground_net.specs.declared.net.NetMemory.{NetMemory}
use Rattle.ground_net.specs.declared.net.NetPort.{NetPort}
use Rattle.ground_net.specs.declared.net.NetWrite.{NetWrite}
use Rattle.ground_net.specs.declared.net.NetRead.{NetRead}
use Rattle.ground_net.specs.declared.net.ElementLeaf.{ElementLeaf}
use Rattle.ground_net.specs.declared.net.CutPart.{CutPart}
use Rattle.ground_net.specs.Reads.{direct_reads, driver_of}
use Rattle.ground_net.specs.Cones.{Sink, A_watched, A_register, A_memory, needs, numbered, or_no_leaf}
use Rattle.code_memories.specs.Nexts.{driven_ground}
use Rattle.code_memories.specs.declared.leaf.MemoryLeaf.{MemoryLeaf}
use Rattle.code_memories.specs.NextReads.{captured_ground}
use Rattle.flat_code.specs.Fine.{among}
use Rattle.code_emit.specs.Counts.{nodes}
use Rattle.partition_code.specs.Codes.{sinks_of_part}

-- the greatest of numbers, and 0 where there are none
abbrev pub greatest : List ℕ → ℕ
greatest [] = 0
greatest (n ∷ ns) = max n (greatest ns)

-- Live assignments

-- what the sinks of a part read directly
abbrev pub sinks_read : Net → List ℕ → CutPart → List ℕ
sinks_read net watch part = flat_map (needs net) (sinks_of_part net watch part)

-- what sinks read directly, and assignments that stand behind a position
abbrev pub read_behind : Net → List ℕ → CutPart → ℕ → List ℕ
read_behind net watch part k = sinks_read net watch part ++ flat_map (direct_reads net) (drop (suc k) part.assignments)

-- An assignment is live behind a position of its part's sequence where it stands at or before that position, and a sink of the part, or
-- an assignment behind that position, reads it directly.
abbrev pub live_behind : Net → List ℕ → CutPart → ℕ → List ℕ
live_behind net watch part k = filter (among (read_behind net watch part k)) (take (suc k) part.assignments)

-- The greatest number of assignments of a part that are live behind one position.
abbrev pub most_assignments : Net → List ℕ → CutPart → ℕ
most_assignments net watch part = greatest (map (λ k. length (live_behind net watch part k)) (range_with_len 0 (length part.assignments)))

-- Nodes

abbrev pub nodes_of : Option Ground → ℕ
nodes_of (Some driver) = nodes driver
nodes_of None = 0

abbrev pub nodes_of_reset : Option NetReset → ℕ
nodes_of_reset (Some r) = nodes r.reset + nodes r.init
nodes_of_reset None = 0

-- Those of an assignment's driver.
abbrev pub assignment_nodes : Net → ℕ → ℕ
assignment_nodes net x = nodes_of (driver_of net x)

-- A register's reset and `init` are counted with its driver. A register that nothing drives keeps its value: its leaf is its driver.
abbrev pub register_nodes : Net → NetRegister → ℕ
register_nodes net register = nodes (driven_ground register.leaf (driver_of net register.leaf)) + nodes_of_reset register.reset

-- A memory has no driver. What counts instead is each of its writes by itself, and each of its captured reads.

-- a write takes a leaf each for its address, its data, its enable and its mask, and the mode of a readwriter
abbrev pub write_nodes : NetPort → Option NetWrite → List ℕ
write_nodes port (Some write) = (4 + length (or_no_leaf port.mode)) ∷ []
write_nodes port None = []

-- a leaf of the elements of a memory, by both numbers
abbrev pub element_of : ℕ → ℕ × ElementLeaf → MemoryLeaf
element_of m both = record { memory = m; number = both.0; kind = both.1.kind; width = both.1.width; narrow = both.1.narrow }

-- a captured read takes what its leaf shows next, for each leaf of an element
abbrev pub read_nodes : ℕ → NetMemory → NetPort → Option NetRead → List ℕ
read_nodes m memory port (Some read) =
    if read.captured then map (λ both. nodes (captured_ground memory port (element_of m both) read.after)) (numbered memory.elements) else []
read_nodes m memory port None = []

abbrev pub memory_nodes : ℕ → NetMemory → List ℕ
memory_nodes m memory = flat_map (λ port. write_nodes port port.write ++ read_nodes m memory port port.read) memory.ports

abbrev pub nodes_of_register : Net → Option NetRegister → List ℕ
nodes_of_register net (Some register) = register_nodes net register ∷ []
nodes_of_register net None = []

abbrev pub nodes_of_memory : ℕ → Option NetMemory → List ℕ
nodes_of_memory m (Some memory) = memory_nodes m memory
nodes_of_memory m None = []

-- What a sink evaluates, each by its nodes. A watched leaf is an assignment: it is shown as it stands.
abbrev pub sink_nodes : Net → Sink → List ℕ
sink_nodes net (A_watched x) = []
sink_nodes net (A_register k) = nodes_of_register net (slice_get net.registers k)
sink_nodes net (A_memory m) = nodes_of_memory m (slice_get net.memories m)

-- that of all sinks of a part
abbrev pub sinks_nodes : Net → List ℕ → CutPart → List ℕ
sinks_nodes net watch part = flat_map (sink_nodes net) (sinks_of_part net watch part)

-- The greatest number of nodes of one driver of a part.
abbrev pub most_nodes : Net → List ℕ → CutPart → ℕ
most_nodes net watch part = greatest (map (assignment_nodes net) part.assignments ++ sinks_nodes net watch part)

-- Two slots for each live assignment, and for each node of the largest driver.
abbrev pub frame_bound : Net → List ℕ → CutPart → ℕ
frame_bound net watch part = 2 * (most_assignments net watch part + most_nodes net watch part)
