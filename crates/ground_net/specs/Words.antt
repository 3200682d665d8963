-- The words of a state.
--
-- A leaf of a state has one word up to 64 bits, and two above, the low one first. The words stand by register in flat order, then by
-- memory in flat order, element by element and leaf by leaf, and then by captured read in flat order.
use Rattle.std.specs.Prelude.{◌≡◌, ℕ, ◌+◌, ◌-◌, ◌*◌, ◌/◌, ◌%◌, ◌^◌, ◌<◌, nat_lt, List, [], ◌∷◌, ◌++◌, flat_map, take, slice_get, slice_index, ℤ, pos, Option, Some, None, if◌then◌else◌, sum_by}
use Rattle.std.specs.List.{range_with_len, AllZip}
use Rattle.bit_words.specs.declared.value.Value.{Value}
use Rattle.bit_words.specs.Values.{integer_of}
use Rattle.prim_ops.specs.Values.{fitted}
use Rattle.ground_net.specs.declared.net.Net.{Net}
use Rattle.ground_net.specs.declared.net.NetMemory.{NetMemory}
use Rattle.ground_net.specs.Cones.{numbered}
use Rattle.ground_net.specs.Shapes.{Shape}
use Rattle.ground_net.specs.Cycles.{NetState}
use Rattle.ground_net.specs.Nets.{register_shapes, element_shapes, captured_shapes}

-- The words of a value.
abbrev pub words_of_value : Value → List ℕ
words_of_value v = if nat_lt 64 v.width then v.bits % 2 ^ 64 ∷ v.bits / 2 ^ 64 ∷ [] else v.bits ∷ []

-- an integer that is kept as this kind and width
abbrev pub kept : Shape → ℤ → List ℕ
kept s n = words_of_value (fitted s.kind s.width n)

-- how many words it takes
abbrev pub word_count : Shape → ℕ
word_count s = if nat_lt 64 s.width then 2 else 1

-- integers that are kept side by side, each by its number
abbrev pub kept_all : List Shape → (ℕ → ℤ) → List ℕ
kept_all shapes integers = flat_map (λ both. kept both.1 (integers both.0)) (numbered shapes)

-- The words of a memory, element by element.
abbrev pub words_of_memory : NetMemory → (ℕ → ℕ → ℤ) → List ℕ
words_of_memory memory contents = flat_map (λ element. kept_all (element_shapes memory) (contents element)) (range_with_len 0 memory.depth)

-- The words of a state.
abbrev pub words_of : Net → NetState → List ℕ
words_of net s =
    kept_all (register_shapes net) s.registers ++ (flat_map (λ both. words_of_memory both.1 (s.contents both.0)) (numbered net.memories) ++ kept_all (captured_shapes net) s.captured)

-- Where they stand

-- the words of some shapes
abbrev pub count_words : List Shape → ℕ
count_words shapes = sum_by word_count shapes

-- the first word of a register
abbrev pub register_word : Net → ℕ → ℕ
register_word net k = count_words (take k (register_shapes net))

-- how many words an element of a memory takes, and the memory
abbrev pub element_words : NetMemory → ℕ
element_words memory = count_words (element_shapes memory)

abbrev pub memory_words : NetMemory → ℕ
memory_words memory = memory.depth * element_words memory

-- the first word of a memory, of a leaf of an element of it, and of a captured read
abbrev pub memory_word : Net → ℕ → ℕ
memory_word net m = count_words (register_shapes net) + sum_by memory_words (take m net.memories)

abbrev pub element_word : Net → ℕ → NetMemory → ℕ → ℕ → ℕ
element_word net m memory element k = memory_word net m + (element * element_words memory + count_words (take k (element_shapes memory)))

abbrev pub captured_word : Net → ℕ → ℕ
captured_word net n = count_words (register_shapes net) + (sum_by memory_words net.memories + count_words (take n (captured_shapes net)))

-- How many words a state has.
abbrev pub state_words : Net → ℕ
state_words net = count_words (register_shapes net) + (sum_by memory_words net.memories + count_words (captured_shapes net))

-- the high word of what stands at a word, 0 up to 64 bits
abbrev pub high_at : Shape → List ℕ → ℕ → ℕ
high_at s words at = if nat_lt 64 s.width then slice_index words (at + 1) else 0

-- The value of a kind and a width that stands at a word, cut to the width.
abbrev pub value_at : Shape → List ℕ → ℕ → Value
value_at s words at = fitted s.kind s.width (pos (slice_index words at + high_at s words at * 2 ^ 64))

-- the integer that stands there, and 0 where there is no such leaf
abbrev pub integer_at_word : List ℕ → ℕ → Option Shape → ℤ
integer_at_word words at (Some s) = integer_of (value_at s words at)
integer_at_word words at None = pos 0

abbrev pub element_integer : Net → List ℕ → ℕ → Option NetMemory → ℕ → ℕ → ℤ
element_integer net words m (Some memory) element k =
    if nat_lt element memory.depth then integer_at_word words (element_word net m memory element k) (slice_get (element_shapes memory) k) else pos 0
element_integer net words m None element k = pos 0

-- The state of words: any list of words gives a state.
abbrev pub state_of : Net → List ℕ → NetState
state_of net words = record {
  registers = λ k. integer_at_word words (register_word net k) (slice_get (register_shapes net) k);
  contents = λ m. element_integer net words m (slice_get net.memories m);
  captured = λ n. integer_at_word words (captured_word net n) (slice_get (captured_shapes net) n);
}

-- A memory says where its words begin.
abbrev pub SaysItsWords : Net → Type 0
SaysItsWords net = (m : ℕ) (memory : NetMemory) → slice_get net.memories m ≡ Some memory → memory.word ≡ memory_word net m

-- Which words a state may have

-- how many bits the words of a leaf have, and those of several leaves
abbrev pub word_widths : Shape → List ℕ
word_widths s = if nat_lt 64 s.width then 64 ∷ (s.width - 64) ∷ [] else s.width ∷ []

abbrev pub all_word_widths : List Shape → List ℕ
all_word_widths shapes = flat_map word_widths shapes

abbrev pub memory_word_widths : NetMemory → List ℕ
memory_word_widths memory = flat_map (λ element. all_word_widths (element_shapes memory)) (range_with_len 0 memory.depth)

-- how many bits the words of a state have, in the order in which they stand
abbrev pub state_word_widths : Net → List ℕ
state_word_widths net = all_word_widths (register_shapes net) ++ (flat_map memory_word_widths net.memories ++ all_word_widths (captured_shapes net))

-- The words are those of a state: as many as its leaves take, and each within its bits.
abbrev pub AreStateWords : Net → List ℕ → Type 0
AreStateWords net words = AllZip (λ bits word. word < 2 ^ bits) (state_word_widths net) words
