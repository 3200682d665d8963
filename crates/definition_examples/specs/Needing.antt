-- Nets of which it is told what a cycle leaves behind, and what that needs (Wang and others, "RepCut: Superlinear Parallel RTL
-- Simulation with Replication-Aided Partitioning").
use Rattle.std.specs.Prelude.{ℕ, ◌+◌, Bool, false, [], ◌∷◌, List, Option, Some, None}
use Rattle.ground_net.specs.declared.ground.Ground.TheVariants as expression
use Rattle.ground_net.specs.declared.net.Role.TheVariants as role
use Rattle.ground_net.specs.declared.net.Net.{Net}
use Rattle.ground_net.specs.declared.net.NetMemory.{NetMemory}
use Rattle.ground_net.specs.declared.net.NetPort.{NetPort}
use Rattle.ground_net.specs.declared.net.NetWrite.{NetWrite}
use Rattle.ground_net.specs.declared.net.NetRead.{NetRead}
use Rattle.definition_examples.specs.Circuits.{leaf}
use Rattle.definition_examples.specs.Kept.{part}

-- a memory behind so many leaves
abbrev pub memory_behind : ℕ → List NetPort → NetMemory
memory_behind count ports = record { name = []; before = count; depth = 4; word = 0; elements = part 8 ∷ part 8 ∷ []; ports = ports }

-- An input (leaf 0), two outputs (1 and 2), a register (3), a memory without ports, a register (4), three nodes (5 to 7), and two more
-- memories without ports. The first register takes the first node; the second is its reset, and the third its `init`.
abbrev pub between : Net
between = record {
  ports = 3;
  leaves = leaf 1 (role.Input 0) ∷ leaf 1 role.Assigned ∷ leaf 1 role.Assigned ∷ leaf 1 (role.Register 0) ∷ leaf 1 (role.Register 1)
      ∷ leaf 1 role.Assigned ∷ leaf 1 role.Assigned ∷ leaf 1 role.Assigned ∷ [];
  drivers = None ∷ Some (expression.Leaf 3) ∷ Some (expression.Leaf 4) ∷ Some (expression.Leaf 5) ∷ None
      ∷ Some (expression.Leaf 0) ∷ Some (expression.Leaf 0) ∷ Some (expression.Leaf 0) ∷ [];
  registers = record { leaf = 3; reset = Some (record { reset = expression.Leaf 6; init = expression.Leaf 7 }) } ∷ record { leaf = 4; reset = None } ∷ [];
  memories = memory_behind 4 [] ∷ memory_behind 8 [] ∷ memory_behind 8 [] ∷ [];
}

-- a port of these leaves, and its address and `en` from a number on
abbrev pub port_from : ℕ → Option ℕ → Option NetWrite → Option NetRead → NetPort
port_from first mode write read = record { addr = first; en = first + 1; mode = mode; write = write; read = read }

-- what a port writes, and what it reads, a cycle later or at once, in leaves from a number on
abbrev pub writing_from : ℕ → Option NetWrite
writing_from first = Some (record { leaves = first ∷ (first + 1) ∷ []; masks = (first + 2) ∷ (first + 3) ∷ [] })

abbrev pub reading_from : ℕ → Bool → Bool → Option NetRead
reading_from first captured after = Some (record { leaves = first ∷ (first + 1) ∷ []; captured = captured; after = after })

-- A net of one memory with these ports.
abbrev pub of_ports : List NetPort → Net
of_ports ports = record { ports = 0; leaves = []; drivers = []; registers = []; memories = memory_behind 0 ports ∷ [] }

-- A writer: its address is the leaf 10, its `en` 11, its data 12 and 13, and its masks 14 and 15.
abbrev pub a_writer : NetPort
a_writer = port_from 10 None (writing_from 12) None

-- A reader: its address is the leaf 20, its `en` 21, and its data 22 and 23.
abbrev pub a_reader : Bool → NetPort
a_reader captured = port_from 20 None None (reading_from 22 captured false)

-- A readwriter: its address is the leaf 30, its `en` 31, what it reads 32 and 33, its mode 34, what it writes 35 and 36, and its masks
-- 37 and 38.
abbrev pub a_readwriter : Bool → NetPort
a_readwriter captured = port_from 30 (Some 34) (writing_from 35) (reading_from 32 captured false)

-- A writer and a reader of the net below.
abbrev pub chained_writer : NetPort
chained_writer = record { addr = 2; en = 0; mode = None; write = Some (record { leaves = 0 ∷ 0 ∷ []; masks = 0 ∷ 0 ∷ [] }); read = None }

abbrev pub chained_reader : NetPort
chained_reader = record { addr = 3; en = 0; mode = None; write = None; read = reading_from 4 false false }

-- An input (leaf 0), a node that takes it (1), a node that takes that one (2), one that takes the input (3), and the data of a reader (4
-- and 5), which come at once. The address of a writer is the second node, and that of the reader the third.
abbrev pub chained : Net
chained = record {
  ports = 1;
  leaves = leaf 2 (role.Input 0) ∷ leaf 2 role.Assigned ∷ leaf 2 role.Assigned ∷ leaf 2 role.Assigned ∷ leaf 8 role.Assigned ∷ leaf 8 role.Assigned ∷ [];
  drivers = None ∷ Some (expression.Leaf 0) ∷ Some (expression.Leaf 1) ∷ Some (expression.Leaf 0)
      ∷ Some (expression.Load 0 0 (expression.Leaf 3 ∷ expression.Leaf 0 ∷ [])) ∷ Some (expression.Load 0 1 (expression.Leaf 3 ∷ expression.Leaf 0 ∷ [])) ∷ [];
  registers = [];
  memories = memory_behind 1 (chained_writer ∷ chained_reader ∷ []) ∷ [];
}
