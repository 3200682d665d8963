-- The ports of a memory (FIRRTL specification 3.0, "Memories"): what they write and read in a cycle.
--
-- The leaves of a memory are seen as integers by their way: the port, its field, and the way within the field.
use Rattle.std.specs.Prelude.{ℕ, ◌==◌, nat_lt, Bool, false, List, [], ◌∷◌, find, filter_map, ℤ, pos, Option, Some, None, unsigned_abs}
use Rattle.std.specs.Ordering.{int_eq}
use Rattle.place_text.specs.declared.place.Place.{Place}
use Rattle.fir_types.specs.declared.leaf.PathStep.{PathStep}
use Rattle.fir_types.specs.declared.leaf.PathStep.TheVariants as step
use Rattle.fir_types.specs.declared.memory.Memory.{Memory}
use Rattle.fir_types.specs.declared.memory.MemLine.{MemLine}
use Rattle.fir_types.specs.declared.memory.MemLine.TheVariants as line
use Rattle.fir_types.specs.declared.memory.PortMode.{PortMode}
use Rattle.fir_types.specs.declared.memory.PortMode.TheVariants as mode
use Rattle.fir_types.specs.Memories.{depth_of}
use Rattle.prim_ops.specs.Ports as port_rules
use Rattle.prim_ops.specs.Ports.{Held, Shown, set_to_write, set_to_read, after_ports, read_by_port}
use Rattle.fir_types.specs.Bundles.{addr_name, en_name, data_name, mask_name, wmode_name, wdata_name, wmask_name}

-- A port: the number of its name and where that stands, and what it does.
pub record MemoryPort : Type 0 where
  pub name : ℕ
  pub place : Place
  pub mode : PortMode

-- the port that a line declares, where it declares one
abbrev pub port_in : MemLine → Option MemoryPort
port_in (line.MemPort at m name) = Some (record { name = name.id; place = name.place; mode = m })
port_in _ = None

-- The ports in declared order.
abbrev pub memory_ports : Memory → List MemoryPort
memory_ports memory = filter_map port_in memory.lines

-- The first port of a name.
abbrev pub port_named : Memory → ℕ → Option MemoryPort
port_named memory name = find (λ port. port.name == name) (memory_ports memory)

-- What the elements hold: an integer for each element and each leaf of it.
abbrev pub Contents : Type 0
Contents = Held (List PathStep)

-- The integers of a memory's leaves.
abbrev pub Leaves : Type 0
Leaves = List PathStep → ℤ

-- the integer of a leaf of a port's field
abbrev pub field : Leaves → MemoryPort → ℕ → List PathStep → ℤ
field leaves port name way = leaves (step.Field port.name ∷ step.Field name ∷ way)

-- whether a field of one bit is 1
abbrev pub is_set : Leaves → MemoryPort → ℕ → Bool
is_set leaves port name = int_eq (field leaves port name []) (pos 1)

-- the number of the element that a port speaks of
abbrev pub address : Leaves → MemoryPort → ℕ
address leaves port = unsigned_abs (field leaves port addr_name [])

-- The address is below the depth.
abbrev pub is_within : Memory → Leaves → MemoryPort → Bool
is_within memory leaves port = nat_lt (address leaves port) (depth_of memory)

-- A port is set to write: a writer with `en` 1, or a readwriter with `en` and `wmode` 1.
abbrev pub asks_to_write : Leaves → MemoryPort → PortMode → Bool
asks_to_write leaves port mode.Reader = false
asks_to_write leaves port mode.Writer = set_to_write (is_set leaves port en_name) None
asks_to_write leaves port mode.ReadWriter = set_to_write (is_set leaves port en_name) (Some (is_set leaves port wmode_name))

-- A port is set to read: a reader with `en` 1, or a readwriter with `en` 1 and `wmode` 0.
abbrev pub asks_to_read : Leaves → MemoryPort → PortMode → Bool
asks_to_read leaves port mode.Reader = set_to_read (is_set leaves port en_name) None
asks_to_read leaves port mode.Writer = false
asks_to_read leaves port mode.ReadWriter = set_to_read (is_set leaves port en_name) (Some (is_set leaves port wmode_name))

-- the field with the data that a port writes, and that with their mask
abbrev pub written_field : PortMode → ℕ
written_field mode.ReadWriter = wdata_name
written_field _ = data_name

abbrev pub mask_field : PortMode → ℕ
mask_field mode.ReadWriter = wmask_name
mask_field _ = mask_name

-- What a port shows of its leaves.
abbrev pub shown : Leaves → MemoryPort → Shown (List PathStep)
shown leaves port = record {
  writes = asks_to_write leaves port port.mode;
  reads = asks_to_read leaves port port.mode;
  address = address leaves port;
  written = field leaves port (written_field port.mode);
  masked = λ way. int_eq (field leaves port (mask_field port.mode) way) (pos 1);
}

-- The contents after a port.
abbrev pub after_port : Memory → Leaves → Contents → MemoryPort → Contents
after_port memory leaves before port = port_rules.after_port (depth_of memory) before (shown leaves port)

-- The contents after all writes of a cycle.
abbrev pub after_writes : Memory → Leaves → Contents → Contents
after_writes memory leaves before = after_ports (depth_of memory) (shown leaves) (memory_ports memory) before

-- What a port reads from given contents.
abbrev pub port_read : Memory → Leaves → Contents → MemoryPort → List PathStep → ℤ
port_read memory leaves contents port way = read_by_port (depth_of memory) contents (shown leaves port) way

-- The same of a port by its name; 0 where the memory has none.
abbrev pub read_of : Memory → Leaves → Contents → Option MemoryPort → List PathStep → ℤ
read_of memory leaves contents (Some port) way = port_read memory leaves contents port way
read_of memory leaves contents None way = pos 0

-- What the port of a name reads from given contents.
abbrev pub read_by : Memory → Leaves → Contents → ℕ → List PathStep → ℤ
read_by memory leaves contents name way = read_of memory leaves contents (port_named memory name) way
