-- What a cycle leaves to the next one, sink by sink, as publications of words (FIRRTL specification 3.0, "Registers" and "Memories").
use Rattle.std.specs.Prelude.{◌≡◌, ℕ, ◌+◌, ◌<◌, ◌≤◌, ◌==◌, ◌&&◌, nat_lt, List, [], ◌++◌, flat_map, slice_get, Option, Some, None, if◌then◌else◌}
use Rattle.phase_core.specs.declared.model.Publication.{Publication}
use Rattle.prim_ops.specs.Values.{fitted}
use Rattle.prim_ops.specs.Ports.{Shown}
use Rattle.ground_net.specs.declared.net.Net.{Net}
use Rattle.ground_net.specs.declared.net.NetRegister.{NetRegister}
use Rattle.ground_net.specs.declared.net.NetMemory.{NetMemory}
use Rattle.ground_net.specs.declared.net.NetPort.{NetPort}
use Rattle.ground_net.specs.Grounds.{Instant}
use Rattle.ground_net.specs.Cones.{Sink, A_watched, A_register, A_memory, numbered}
use Rattle.ground_net.specs.Shapes.{Shape}
use Rattle.ground_net.specs.Cycles.{NetState, Capture, captures, shown, next}
use Rattle.ground_net.specs.Nets.{shape_or_none, element_shapes}
use Rattle.ground_net.specs.Words.{word_count, register_word, memory_word, memory_words, element_word, captured_word}
use Rattle.flat_code.specs.Meaning.{stored}

-- the kinds and widths of a register and of a captured read
abbrev pub register_shape : Net → NetRegister → Shape
register_shape net register = shape_or_none (slice_get net.leaves register.leaf)

abbrev pub capture_shape : Net → Capture → Shape
capture_shape net c = shape_or_none (slice_get net.leaves c.leaf)

-- A register leaves the words of its next integer, from its own word on.
abbrev pub register_told : Net → NetState → Instant → ℕ → Option NetRegister → List Publication
register_told net st instant n (Some register) =
    let s = register_shape net register in
    stored (register_word net n) (fitted s.kind s.width ((next net st instant).registers n))
register_told net st instant n None = []

-- What a port leaves in leaf k of an element: the words of its data, where it writes, the address is below the depth, and the leaf's
-- mask is 1.
abbrev pub leaf_told : Net → ℕ → NetMemory → Shown ℕ → ℕ × Shape → List Publication
leaf_told net m memory port both =
    if (port.writes && nat_lt port.address memory.depth) && port.masked both.0
    then stored (element_word net m memory port.address both.0) (fitted both.1.kind both.1.width (port.written both.0))
    else []

-- The writes of a port, leaf by leaf, and those of a memory, port by port in declared order: of two writes of a word the later stays.
abbrev pub port_told : Net → Instant → ℕ → NetMemory → NetPort → List Publication
port_told net instant m memory port = flat_map (leaf_told net m memory (shown instant port)) (numbered (element_shapes memory))

abbrev pub writes_told : Net → Instant → ℕ → NetMemory → List Publication
writes_told net instant m memory = flat_map (port_told net instant m memory) memory.ports

-- A captured read of the memory leaves the words of what it shows next, from its own word on.
abbrev pub capture_told : Net → NetState → Instant → ℕ → ℕ × Capture → List Publication
capture_told net st instant m both =
    if both.1.number == m
    then (let s = capture_shape net both.1 in stored (captured_word net both.0) (fitted s.kind s.width ((next net st instant).captured both.0)))
    else []

abbrev pub captures_told : Net → NetState → Instant → ℕ → List Publication
captures_told net st instant m = flat_map (capture_told net st instant m) (numbered (captures net))

-- A memory leaves what its ports write, and then what its captured reads show next.
abbrev pub memory_told : Net → NetState → Instant → ℕ → Option NetMemory → List Publication
memory_told net st instant m (Some memory) = writes_told net instant m memory ++ captures_told net st instant m
memory_told net st instant m None = []

-- What a sink leaves, in order. A watched leaf leaves nothing.
abbrev pub sink_told : Net → NetState → Instant → Sink → List Publication
sink_told net st instant (A_watched x) = []
sink_told net st instant (A_register n) = register_told net st instant n (slice_get net.registers n)
sink_told net st instant (A_memory m) = memory_told net st instant m (slice_get net.memories m)

abbrev pub sinks_told : Net → NetState → Instant → List Sink → List Publication
sinks_told net st instant these = flat_map (sink_told net st instant) these

-- the words of a leaf, from its first one on
abbrev pub IsWordOf : ℕ → Shape → ℕ → Type 0
IsWordOf first s i = (first ≤ i) × (i < first + word_count s)

-- The word of this number is a sink's: one of a register; or of a memory's elements, or of its captured reads.
pub data HasWord (net : Net) : Sink → ℕ → Type 0 where
  of_register : {n i : ℕ} (register : NetRegister) → slice_get net.registers n ≡ Some register → IsWordOf (register_word net n) (register_shape net register) i → HasWord net (A_register n) i
  of_elements : {m i : ℕ} (memory : NetMemory) → slice_get net.memories m ≡ Some memory → memory_word net m ≤ i → i < memory_word net m + memory_words memory → HasWord net (A_memory m) i
  of_capture : {m i : ℕ} (n : ℕ) (c : Capture) → slice_get (captures net) n ≡ Some c → c.number ≡ m → IsWordOf (captured_word net n) (capture_shape net c) i → HasWord net (A_memory m) i
