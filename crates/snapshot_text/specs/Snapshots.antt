-- Snapshots: what a run goes on from, held as its words.
use Rattle.std.specs.Prelude.{◌≡◌, ◌≢◌, ℕ, ◌==◌, ◌&&◌, not, Bool, List, [], ◌++◌, map, flat_map, slice_get, All, ℤ, Some}
use Rattle.std.specs.List.{range_with_len, AllPass}
use Rattle.bit_words.specs.declared.value.Value.{Value}
use Rattle.bit_words.specs.Values.{integer_of}
use Rattle.ground_net.specs.declared.net.Leaf.{Leaf}
use Rattle.ground_net.specs.declared.net.Net.{Net}
use Rattle.ground_net.specs.declared.net.NetMemory.{NetMemory}
use Rattle.ground_net.specs.declared.net.ElementLeaf.{ElementLeaf}
use Rattle.ground_net.specs.declared.net.PortLeaf.{PortLeaf}
use Rattle.ground_net.specs.Cones.{numbered}
use Rattle.ground_net.specs.Watching.{AreValuesOf}
use Rattle.ground_net.specs.Shapes.{Shape}
use Rattle.ground_net.specs.Cycles.{NetState}
use Rattle.ground_net.specs.Nets.{IsWithin, register_shapes, element_shapes, captured_shapes}
use Rattle.ground_net.specs.Words.{words_of}
use Rattle.snapshot_text.specs.declared.snapshot.Snapshot.{Snapshot}
use Rattle.snapshot_text.specs.Cells.{Cell, cells_of}
use Rattle.snapshot_text.specs.Texts.{state_text, IsState}

-- integers by their numbers, as many as there are shapes
abbrev pub integers_all : List Shape → (ℕ → ℤ) → List ℤ
integers_all shapes integers = map (λ both. integers both.0) (numbered shapes)

abbrev pub integers_of_memory : NetMemory → (ℕ → ℕ → ℤ) → List ℤ
integers_of_memory memory contents = flat_map (λ element. integers_all (element_shapes memory) (contents element)) (range_with_len 0 memory.depth)

-- The integers of a state in the order of its lines: the registers, the memories element by element and leaf by leaf, and the captured
-- reads.
abbrev pub integers_of_state : Net → NetState → List ℤ
integers_of_state net t =
    integers_all (register_shapes net) t.registers
    ++ (flat_map (λ both. integers_of_memory both.1 (t.contents both.0)) (numbered net.memories) ++ integers_all (captured_shapes net) t.captured)

-- what the inputs had, and then what is kept
abbrev pub values_of : Net → NetState → List Value → List ℤ
values_of net t row = map integer_of row ++ integers_of_state net t

-- A snapshot holds a state: the words are the state's, whose integers are in the ranges of their leaves, and there is a value for each
-- input, of its kind and width.
pub record HoldsState (net : Net) (leaves : List PortLeaf) (t : NetState) (snapshot : Snapshot) : Type 0 where
  pub inputs : AreValuesOf leaves snapshot.inputs
  pub within : IsWithin net t
  pub words : snapshot.words ≡ words_of net t

-- The text of a snapshot that holds this state.
abbrev pub snapshot_text : Net → List PortLeaf → NetState → Snapshot → List ℕ
snapshot_text net leaves t snapshot = state_text (cells_of net leaves) snapshot.cycle (values_of net t snapshot.inputs)

-- The snapshot that a text is read as.
pub record IsSnapshot (net : Net) (leaves : List PortLeaf) (text : List ℕ) (snapshot : Snapshot) : Type 0 where
  pub state : NetState
  pub holds : HoldsState net leaves state snapshot
  pub read : IsState (cells_of net leaves) text snapshot.cycle (values_of net state snapshot.inputs)

-- no space and no line feed
abbrev pub no_break : ℕ → Bool
no_break b = not (b == 32) && not (b == 10)

abbrev pub IsUnbroken : List ℕ → Type 0
IsUnbroken name = AllPass no_break name

-- Each name is one word: it has no space and no line feed.
pub record HasWords (net : Net) (leaves : List PortLeaf) : Type 0 where
  pub of_inputs : All (λ leaf. IsUnbroken leaf.name) leaves
  pub of_leaves : (x : ℕ) (leaf : Leaf) → slice_get net.leaves x ≡ Some leaf → IsUnbroken leaf.name
  pub of_memories : (m : ℕ) (memory : NetMemory) → slice_get net.memories m ≡ Some memory → IsUnbroken memory.name
  pub of_ways : (m k : ℕ) (memory : NetMemory) (leaf : ElementLeaf) → slice_get net.memories m ≡ Some memory → slice_get memory.elements k ≡ Some leaf → IsUnbroken leaf.path

-- the same of lines: their two words have no space and no line feed, and the first one isn't empty
pub record IsNamed (cell : Cell) : Type 0 where
  pub some : cell.word ≢ []
  pub word : IsUnbroken cell.word
  pub name : IsUnbroken cell.name
