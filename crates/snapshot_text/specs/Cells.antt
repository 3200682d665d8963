-- What the text of a state has a line for: each input of main, each register, each leaf of each element of each memory, and each captured
-- read.
use Rattle.std.specs.Prelude.{ℕ, Bool, true, false, List, ◌∷◌, ◌++◌, map, flat_map, filter_map, slice_get, Option, Some, None, option_map, if◌then◌else◌, codes, decimal}
use Rattle.std.specs.List.{range_with_len}
use Rattle.bit_words.specs.declared.value.Kind.{Kind}
use Rattle.ground_net.specs.declared.net.Leaf.{Leaf}
use Rattle.ground_net.specs.declared.net.Role.{Role}
use Rattle.ground_net.specs.declared.net.Role.TheVariants as role
use Rattle.ground_net.specs.declared.net.Net.{Net}
use Rattle.ground_net.specs.declared.net.NetRegister.{NetRegister}
use Rattle.ground_net.specs.declared.net.NetMemory.{NetMemory}
use Rattle.ground_net.specs.declared.net.ElementLeaf.{ElementLeaf}
use Rattle.ground_net.specs.declared.net.PortLeaf.{PortLeaf}

-- the two first words of a line, and the kind and width of its value
pub record Cell : Type 0 where
  pub word : List ℕ
  pub name : List ℕ
  pub kind : Kind
  pub width : ℕ

abbrev pub input_cell : PortLeaf → Cell
input_cell leaf = record { word = codes "input"; name = leaf.name; kind = leaf.kind; width = leaf.width }

abbrev pub leaf_cell : List ℕ → Leaf → Cell
leaf_cell word leaf = record { word = word; name = leaf.name; kind = leaf.kind; width = leaf.width }

-- a register, by its leaf
abbrev pub register_cell : Net → NetRegister → Option Cell
register_cell net register = option_map (leaf_cell (codes "reg")) (slice_get net.leaves register.leaf)

-- the name of a leaf of an element: the memory, the element's number between brackets, and the way within the element
abbrev pub element_name : List ℕ → ℕ → List ℕ → List ℕ
element_name memory element way = memory ++ (91 ∷ (decimal element ++ (93 ∷ way)))

abbrev pub element_cell : NetMemory → ℕ → ElementLeaf → Cell
element_cell memory element leaf = record { word = codes "mem"; name = element_name memory.name element leaf.path; kind = leaf.kind; width = leaf.width }

abbrev pub memory_cells : NetMemory → List Cell
memory_cells memory = flat_map (λ element. map (element_cell memory element) memory.elements) (range_with_len 0 memory.depth)

abbrev pub is_captured : Role → Bool
is_captured (role.Captured n) = true
is_captured _ = false

abbrev pub captured_cell : Leaf → Option Cell
captured_cell leaf = if is_captured leaf.role then Some (leaf_cell (codes "read") leaf) else None

-- The lines of what a net keeps between cycles: the registers in flat order, the memories element by element and leaf by leaf, and the
-- captured reads in flat order.
abbrev pub state_cells : Net → List Cell
state_cells net = filter_map (register_cell net) net.registers ++ (flat_map memory_cells net.memories ++ filter_map captured_cell net.leaves)

-- The lines of a net's states with these inputs, in order: the inputs in port order, and then what is kept.
abbrev pub cells_of : Net → List PortLeaf → List Cell
cells_of net inputs = map input_cell inputs ++ state_cells net
