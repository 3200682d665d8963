-- Memories with the numbers of their ports' leaves (FIRRTL specification 3.0, "Memories").
use Rattle.std.specs.Prelude.{ℕ, ◌+◌, ◌==◌, not, List, [], ◌∷◌, map, filter_map, drop, length, Option, Some, None}
use Rattle.std.specs.List.{range_with_len}
use Rattle.fir_types.specs.declared.leaf.TypeLeaf.{TypeLeaf}
use Rattle.fir_types.specs.declared.memory.Memory.{Memory}
use Rattle.fir_types.specs.declared.memory.MemLine.{MemLine}
use Rattle.fir_types.specs.declared.memory.MemLine.TheVariants as line
use Rattle.fir_types.specs.declared.memory.PortMode.{PortMode}
use Rattle.fir_types.specs.declared.memory.PortMode.TheVariants as mode
use Rattle.fir_types.specs.Leaves.{leaves}
use Rattle.fir_types.specs.Memories.{element_of, depth_of, read_latency_of, under_of}
use Rattle.fir_types.specs.Bundles.{data_name, rdata_name}
use Rattle.fir_tree.specs.LeafNames.{Texts, text_of}
use Rattle.fir_meaning.specs.Components.{Sort, A_memory}
use Rattle.fir_meaning.specs.MemoryPorts.{MemoryPort, port_in, memory_ports}
use Rattle.ground_net.specs.declared.circuit.GroundMemory.{GroundMemory}
use Rattle.ground_net.specs.declared.net.NetPort.{NetPort}
use Rattle.net_of_circuit.specs.NetOf.{is_new}
use Rattle.lower_aggregates.specs.Parts.{Part}
use Rattle.lower_aggregates.specs.declared.memories.HowRead.{HowRead}
use Rattle.lower_aggregates.specs.Elements.{ElementRow, element_row, own_row, rows_while}

-- how the ports of a memory read
abbrev pub reading_of : Memory → HowRead
reading_of memory = record { captured = not (read_latency_of memory == 0); after = is_new (under_of memory) }

-- how many leaves a port has, where an element has so many
abbrev pub port_leaves : PortMode → ℕ → ℕ
port_leaves mode.Reader count = 3 + count
port_leaves mode.Writer count = 3 + (count + count)
port_leaves mode.ReadWriter count = 4 + (count + (count + count))

-- A port with this first leaf: `addr`, `en` and `clk`, and then the fields of its mode in order.
abbrev pub port_numbers : ℕ → ℕ → PortMode → HowRead → NetPort
port_numbers first count mode.Reader how = record {
  addr = first;
  en = first + 1;
  mode = None;
  write = None;
  read = Some (record { leaves = range_with_len (first + 3) count; captured = how.captured; after = how.after });
}
port_numbers first count mode.Writer how = record {
  addr = first;
  en = first + 1;
  mode = None;
  write = Some (record { leaves = range_with_len (first + 3) count; masks = range_with_len (first + 3 + count) count });
  read = None;
}
port_numbers first count mode.ReadWriter how = record {
  addr = first;
  en = first + 1;
  mode = Some (first + 3 + count);
  write = Some (record { leaves = range_with_len (first + 3 + count + 1) count; masks = range_with_len (first + 3 + count + 1 + count) count });
  read = Some (record { leaves = range_with_len (first + 3) count; captured = how.captured; after = how.after });
}

-- Ports one after the other.
abbrev pub ports_from : ℕ → ℕ → HowRead → List MemoryPort → List NetPort
ports_from first count how [] = []
ports_from first count how (port ∷ ports) = port_numbers first count port.mode how ∷ ports_from (first + port_leaves port.mode count) count how ports

abbrev pub size_of_ports : ℕ → List MemoryPort → ℕ
size_of_ports count [] = 0
size_of_ports count (port ∷ ports) = port_leaves port.mode count + size_of_ports count ports

abbrev pub size_of_line : ℕ → MemLine → ℕ
size_of_line count (line.MemPort at m name) = port_leaves m count
size_of_line count _ = 0

abbrev pub mode_of_first : List MemoryPort → Option PortMode
mode_of_first [] = None
mode_of_first (port ∷ ports) = Some port.mode

abbrev pub first_mode_of : List MemLine → Option PortMode
first_mode_of lines = mode_of_first (filter_map port_in lines)

-- the field of a port that shows an element first
abbrev pub shown_field : PortMode → ℕ
shown_field mode.ReadWriter = rdata_name
shown_field _ = data_name

-- The leaves of a memory's elements, as the leaves of its ports show them, or as its text gives them.
abbrev pub stored_by : Texts → Memory → Option PortMode → List TypeLeaf → List ElementRow
stored_by texts memory (Some m) listed = rows_while texts (shown_field m) (drop 3 listed)
stored_by texts memory None listed = map (own_row texts) (leaves (element_of memory))

abbrev pub stored : Texts → Memory → List TypeLeaf → List ElementRow
stored texts memory listed = stored_by texts memory (first_mode_of memory.lines) listed

-- What is said of a memory.
pub record MemoryRow : Type 0 where
  pub name : List ℕ
  pub first : ℕ
  pub depth : ℕ
  pub elements : List ElementRow
  pub ports : List NetPort

abbrev pub memory_row : GroundMemory → MemoryRow
memory_row g = record { name = g.name; first = g.first; depth = g.depth; elements = map element_row g.elements; ports = g.ports }

abbrev pub memory_by : Texts → Part → Memory → MemoryRow
memory_by texts p memory = record {
  name = text_of texts p.name;
  first = p.first;
  depth = depth_of memory;
  elements = stored texts memory (leaves p.typ);
  ports = ports_from p.first (length (stored texts memory (leaves p.typ))) (reading_of memory) (memory_ports memory);
}

abbrev pub memory_where : Texts → Part → Sort → Option MemoryRow
memory_where texts p (A_memory memory) = Some (memory_by texts p memory)
memory_where texts p _ = None

abbrev pub memory_in : Texts → Part → Option MemoryRow
memory_in texts p = memory_where texts p p.sort

-- The memories among parts of a module, in order.
abbrev pub memories_in : Texts → List Part → List MemoryRow
memories_in texts ps = filter_map (memory_in texts) ps
