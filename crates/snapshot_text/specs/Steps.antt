-- From line to line of a net's states: what is lent of a line, what is still ahead, and how a line's words are cut.
use Rattle.std.specs.Prelude.{◌≡◌, ◌≢◌, ◌⊎◌, ℕ, ◌+◌, ◌-◌, ◌<◌, List, [], ◌∷◌, ◌++◌, map, flat_map, filter_map, drop, length, slice_get, ℤ, Option, Some, None}
use Rattle.std.specs.List.{range_with_len}
use Rattle.bit_words.specs.Values.{integer_of}
use Rattle.ground_net.specs.declared.net.NetMemory.{NetMemory}
use Rattle.ground_net.specs.Shapes.{Shape, shaped}
use Rattle.ground_net.specs.Words.{word_count, value_at, kept}
use Rattle.snapshot_text.specs.declared.cells.CellLine.{CellLine}
use Rattle.snapshot_text.specs.declared.cells.ElementOf.{ElementOf}
use Rattle.snapshot_text.specs.declared.cells.Cursor.{Cursor}
use Rattle.snapshot_text.specs.Cells.{Cell, register_cell, element_name, element_cell, memory_cells, captured_cell}

-- the name that is lent in parts
abbrev pub name_of : List ℕ → Option ElementOf → List ℕ
name_of name None = name
name_of name (Some element) = element_name name element.index element.path.now

abbrev pub cell_of : CellLine → Cell
cell_of line = record { word = line.word.now; name = name_of line.name.now line.element; kind = line.kind; width = line.width }

abbrev pub shape_of_cell : Cell → Shape
shape_of_cell cell = shaped cell.kind cell.width

-- the leaves of the elements of a memory from an element on
abbrev pub cells_from : NetMemory → ℕ → List Cell
cells_from memory element = flat_map (λ e. map (element_cell memory e) memory.elements) (range_with_len element (memory.depth - element))

-- those of memories, the first of them from a leaf of an element on
abbrev pub memories_ahead : List NetMemory → ℕ → ℕ → List Cell
memories_ahead [] element leaf = []
memories_ahead (memory ∷ memories) element leaf = drop leaf (cells_from memory element) ++ flat_map memory_cells memories

-- The lines that are still ahead.
abbrev pub cells_ahead : Cursor → List Cell
cells_ahead c =
    filter_map (register_cell c.net.now) (drop c.register c.net.now.registers)
    ++ (memories_ahead (drop c.memory c.net.now.memories) c.element c.leaf ++ filter_map captured_cell (drop c.read c.net.now.leaves))

-- a leaf of an element is the first one, or it is one of the memory that is at hand
pub record IsSettled (c : Cursor) : Type 0 where
  pub leaf : (memory : NetMemory) → slice_get c.net.now.memories c.memory ≡ Some memory → (c.leaf ≡ 0) ⊎ (c.leaf < length memory.elements)

-- a leaf of an element of a memory is at hand
pub record HasElement (c : Cursor) (memory : NetMemory) : Type 0 where
  pub element : c.element < memory.depth
  pub leaf : c.leaf < length memory.elements

-- a line is the next one, and what is behind it is ahead then
pub record IsNext (c : Cursor) (line : CellLine) (behind : Cursor) : Type 0 where
  pub ahead : cells_ahead c ≡ cell_of line ∷ cells_ahead behind
  pub settled : IsSettled behind
  pub net : behind.net ≡ c.net

-- the same lines are ahead
pub record IsSame (c other : Cursor) : Type 0 where
  pub ahead : cells_ahead other ≡ cells_ahead c
  pub settled : IsSettled other
  pub net : other.net ≡ c.net

-- how many words lines have
abbrev pub count_cells : List Cell → ℕ
count_cells [] = 0
count_cells (cell ∷ cells) = word_count (shape_of_cell cell) + count_cells cells

-- the integers of lines, whose words stand side by side from a place on
abbrev pub integers_at : List Cell → List ℕ → ℕ → List ℤ
integers_at [] words at = []
integers_at (cell ∷ cells) words at = integer_of (value_at (shape_of_cell cell) words at) ∷ integers_at cells words (at + word_count (shape_of_cell cell))

-- the words of integers, line by line
abbrev pub words_of_cells : List Cell → List ℤ → List ℕ
words_of_cells [] values = []
words_of_cells (cell ∷ cells) [] = []
words_of_cells (cell ∷ cells) (v ∷ vs) = kept (shape_of_cell cell) v ++ words_of_cells cells vs

-- no byte is this one
abbrev pub Lacks : ℕ → List ℕ → Type 0
Lacks b [] = Unit {0}
Lacks b (x ∷ xs) = (x ≢ b) × Lacks b xs
