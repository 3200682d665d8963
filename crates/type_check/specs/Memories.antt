-- The lines of a memory (FIRRTL specification 3.0, "Memories"): each of the five stands once, ports have different names, the depth
-- is at least 1, the read latency 0 or 1 and the write latency 1.
use Rattle.std.specs.Prelude.{ℕ, nat_le, nat_eq, Bool, true, false, List, [], ◌∷◌, ◌++◌, flat_map}
use Rattle.std.specs.List.{list_any}
use Rattle.place_text.specs.declared.place.Place.{Place}
use Rattle.fir_types.specs.declared.memory.Memory.{Memory}
use Rattle.fir_types.specs.declared.memory.MemLine.{MemLine}
use Rattle.fir_types.specs.declared.memory.MemLine.TheVariants as line
use Rattle.type_check.specs.declared.fault.TypeFault.TheVariants.{MemoryField}
use Rattle.type_check.specs.declared.fault.TypeFault.{TypeFault}
use Rattle.type_check.specs.Parts.{unless, when}
use Rattle.type_check.specs.Texts.{stored_faults}

-- what a line says by itself
abbrev pub line_faults : MemLine → List TypeFault
line_faults (line.Element at typ) = stored_faults typ
line_faults (line.Depth at n) = unless (nat_le 1 n) (MemoryField at)
line_faults (line.ReadLatency at n) = unless (nat_le n 1) (MemoryField at)
line_faults (line.WriteLatency at n) = unless (nat_eq n 1) (MemoryField at)
line_faults (line.ReadUnder at under) = []
line_faults (line.MemPort at mode name) = []

abbrev pub is_element : MemLine → Bool
is_element (line.Element at typ) = true
is_element _ = false

abbrev pub is_depth : MemLine → Bool
is_depth (line.Depth at n) = true
is_depth _ = false

abbrev pub is_read_latency : MemLine → Bool
is_read_latency (line.ReadLatency at n) = true
is_read_latency _ = false

abbrev pub is_write_latency : MemLine → Bool
is_write_latency (line.WriteLatency at n) = true
is_write_latency _ = false

abbrev pub is_under : MemLine → Bool
is_under (line.ReadUnder at under) = true
is_under _ = false

-- a port of this name
abbrev pub is_port : ℕ → MemLine → Bool
is_port id (line.MemPort at mode name) = nat_eq id name.id
is_port id _ = false

-- whether a line says what one of these says as well
abbrev pub is_said : List MemLine → MemLine → Bool
is_said before (line.Element at typ) = list_any is_element before
is_said before (line.Depth at n) = list_any is_depth before
is_said before (line.ReadLatency at n) = list_any is_read_latency before
is_said before (line.WriteLatency at n) = list_any is_write_latency before
is_said before (line.ReadUnder at under) = list_any is_under before
is_said before (line.MemPort at mode name) = list_any (is_port name.id) before

-- the place of a line's first word, and of a port its name
abbrev pub place_of : MemLine → Place
place_of (line.Element at typ) = at
place_of (line.Depth at n) = at
place_of (line.ReadLatency at n) = at
place_of (line.WriteLatency at n) = at
place_of (line.ReadUnder at under) = at
place_of (line.MemPort at mode name) = name.place

-- the lines that say again what one before them says
abbrev pub again_behind : List MemLine → List MemLine → List TypeFault
again_behind before [] = []
again_behind before (one ∷ lines) = when (is_said before one) (MemoryField (place_of one)) ++ again_behind (before ++ one ∷ []) lines

-- the lines that are missing, each at the memory's name
abbrev pub missing : Place → List MemLine → List TypeFault
missing at lines =
    unless (list_any is_element lines) (MemoryField at)
    ++ (unless (list_any is_depth lines) (MemoryField at)
    ++ (unless (list_any is_read_latency lines) (MemoryField at)
    ++ (unless (list_any is_write_latency lines) (MemoryField at)
    ++ unless (list_any is_under lines) (MemoryField at))))

abbrev pub memory_faults : Memory → List TypeFault
memory_faults memory = flat_map line_faults memory.lines ++ (again_behind [] memory.lines ++ missing memory.name.place memory.lines)
