-- Where the words of a state stand, and that they are words.
use Rattle.std.proofs.Common.{◌≡◌, ℕ, zero, suc, ◌+◌, ◌*◌, ◌/◌, ◌%◌, ◌^◌, ◌<◌, ◌≤◌, Bool, true, false, List, [], ◌∷◌, ◌++◌, take, length, slice_get, slice_index, sum_by, nat_lt, if◌then◌else◌, Some, ℤ, refl, subst, ap, ap₂, ◌∙◌, arith, pow-add, pow_pos, pow_mono, mod-lt, div-lt_iff_lt-mul}
use Rattle.std.specs.List.{flat_map, range_with_len}
use Rattle.std.proofs.lemmas.Bool.{ltb-false}
use Rattle.bit_words.specs.declared.value.Value.{Value}
use Rattle.prim_ops.specs.Values.{fitted}
use Rattle.ground_net.specs.declared.net.Net.{Net}
use Rattle.ground_net.specs.declared.net.NetMemory.{NetMemory}
use Rattle.ground_net.specs.Cones.{numbered}
use Rattle.ground_net.specs.Shapes.{Shape}
use Rattle.ground_net.specs.Cycles.{NetState}
use Rattle.ground_net.specs.Nets.{register_shapes, element_shapes, captured_shapes}
use Rattle.ground_net.specs.Words.{words_of_value, kept, kept_all, words_of_memory, words_of, count_words, register_word, element_words, memory_words, memory_word, element_word, captured_word, state_words}
use Rattle.ground_net.proofs.Placing.{At, length_append, at_first, at_last, at_inside, at_place, length_flat_map, sum_all_numbered, kept_all_length, memory_length, kept_at, element_at, memory_at}
use Rattle.partition_code.specs.Codes.{AreWords}
use Rattle.partition_code.proofs.Lists.{Each, each_none, each_cons, each_append, each_flat}

-- a piece of words, word by word
abbrev pub Holds : List ℕ → ℕ → List ℕ → Type 0
Holds words at piece = (j : ℕ) → j < length piece → slice_index words (at + j) ≡ slice_index piece j

behind : (front rest : List ℕ) (j : ℕ) → slice_index (front ++ rest) (length front + j) ≡ slice_index rest j
behind [] rest j = let z : 0 + j ≡ j = omega arith in ap (slice_index rest) z
behind (x ∷ front) rest j = let z : suc (length front) + j ≡ suc (length front + j) = omega arith in ap (slice_index (x ∷ (front ++ rest))) z ∙ behind front rest j

before : (piece back : List ℕ) (j : ℕ) → j < length piece → slice_index (piece ++ back) j ≡ slice_index piece j
before [] back j lt = absurd (omega (arith, lt))
before (x ∷ piece) back zero lt = refl
before (x ∷ piece) back (suc j) lt = before piece back j (omega (arith, lt))

pub holds_at : (words piece : List ℕ) (at : ℕ) → At words piece at → Holds words at piece
holds_at words piece at a j lt =
    subst (λ p. slice_index words (p + j) ≡ slice_index piece j) a.place
    (ap (λ l. slice_index l (length a.front + j)) a.is ∙ (behind a.front (piece ++ a.back) j ∙ before piece a.back j lt))

-- numbers of 64 bits

high_part : (b w : ℕ) → b < 2 ^ w → w ≤ 128 → b / 2 ^ 64 < 2 ^ 64
high_part b w lt le =
    let most : 2 ^ w ≤ 2 ^ 128 = pow_mono le in
    let square : 2 ^ 128 ≡ 2 ^ 64 * 2 ^ 64 = pow-add 2 64 64 in
    (div-lt_iff_lt-mul (pow_pos 64)).1 (within b (2 ^ w) (2 ^ 128) (2 ^ 64 * 2 ^ 64) lt most square)
  where
    within : (b m n k : ℕ) → b < m → m ≤ n → n ≡ k → b < k
    within b m n k lt le e = omega (arith, lt, le, e)

pub one_part : (b w : ℕ) → b < 2 ^ w → w ≤ 64 → b < 2 ^ 64
one_part b w lt le = within b (2 ^ w) (2 ^ 64) lt (pow_mono le)
  where
    within : (b m n : ℕ) → b < m → m ≤ n → b < n
    within b m n lt le = omega (arith, lt, le)

abbrev Plain : ℕ → Type 0
Plain n = n < 2 ^ 64

value_plain : (v : Value) → Each Plain (words_of_value v)
value_plain v = by_test (nat_lt 64 v.width) refl
  where
    by_test : (b : Bool) → nat_lt 64 v.width ≡ b → Each Plain (if b then v.bits % 2 ^ 64 ∷ v.bits / 2 ^ 64 ∷ [] else v.bits ∷ [])
    by_test true e = each_cons Plain (v.bits % 2 ^ 64) (v.bits / 2 ^ 64 ∷ []) (mod-lt v.bits (pow_pos 64)) (each_cons Plain (v.bits / 2 ^ 64) [] (high_part v.bits v.width v.within v.narrow) (each_none Plain))
    by_test false e = each_cons Plain v.bits [] (one_part v.bits v.width v.within (ltb-false 64 v.width e)) (each_none Plain)

all_plain : (shapes : List Shape) (integers : ℕ → ℤ) → Each Plain (kept_all shapes integers)
all_plain shapes integers =
    each_flat Plain (λ both. kept both.1 (integers both.0)) (numbered shapes) (λ k both e. value_plain (fitted both.1.kind both.1.width (integers both.0)))

from_each : (words : List ℕ) → Each Plain words → AreWords words
from_each [] h i = pow_pos 64
from_each (x ∷ words) h zero = h 0 x refl
from_each (x ∷ words) h (suc i) = from_each words (λ k. h (suc k)) i

module _ (net : Net) (s : NetState) where
  abbrev Registers : List ℕ
  Registers = kept_all (register_shapes net) s.registers

  abbrev Memories : List ℕ
  Memories = flat_map (λ both. words_of_memory both.1 (s.contents both.0)) (numbered net.memories)

  abbrev Captured : List ℕ
  Captured = kept_all (captured_shapes net) s.captured

  -- so many words, each a number of 64 bits

  memories_length : length Memories ≡ sum_by memory_words net.memories
  memories_length =
      length_flat_map (λ both. words_of_memory both.1 (s.contents both.0)) (λ both. memory_words both.1) (λ both. memory_length both.1 (s.contents both.0)) (numbered net.memories)
      ∙ sum_all_numbered memory_words 0 net.memories

  pub words_counted : length (words_of net s) ≡ state_words net
  words_counted =
      length_append Registers (Memories ++ Captured)
      ∙ ap₂ (λ x y. x + y) (kept_all_length (register_shapes net) s.registers) (length_append Memories Captured ∙ ap₂ (λ x y. x + y) memories_length (kept_all_length (captured_shapes net) s.captured))

  pub words_plain : AreWords (words_of net s)
  words_plain = from_each (words_of net s)
      (each_append Plain Registers (Memories ++ Captured) (all_plain (register_shapes net) s.registers)
      (each_append Plain Memories Captured
      (each_flat Plain (λ both. words_of_memory both.1 (s.contents both.0)) (numbered net.memories)
      (λ m both e. each_flat Plain (λ element. kept_all (element_shapes both.1) (s.contents both.0 element)) (range_with_len 0 both.1.depth) (λ k element f. all_plain (element_shapes both.1) (s.contents both.0 element))))
      (all_plain (captured_shapes net) s.captured)))

  -- where they stand

  rest_there : At (words_of net s) (Memories ++ Captured) (count_words (register_shapes net))
  rest_there = at_place (words_of net s) (Memories ++ Captured) _ _ (kept_all_length (register_shapes net) s.registers) (at_last Registers (Memories ++ Captured))

  pub register_there : (n : ℕ) (t : Shape) → slice_get (register_shapes net) n ≡ Some t → Holds (words_of net s) (register_word net n) (kept t (s.registers n))
  register_there n t e = holds_at (words_of net s) (kept t (s.registers n)) (register_word net n)
      (at_place (words_of net s) (kept t (s.registers n)) (0 + register_word net n) (register_word net n) (omega arith)
      (at_inside (words_of net s) Registers (kept t (s.registers n)) 0 (register_word net n) (at_first Registers (Memories ++ Captured)) (kept_at (register_shapes net) s.registers n t e)))

  memories_there : At (words_of net s) Memories (count_words (register_shapes net))
  memories_there =
      at_place (words_of net s) Memories (count_words (register_shapes net) + 0) (count_words (register_shapes net)) (omega arith)
      (at_inside (words_of net s) (Memories ++ Captured) Memories (count_words (register_shapes net)) 0 rest_there (at_first Memories Captured))

  pub element_there : (m element k : ℕ) (memory : NetMemory) (t : Shape) → slice_get net.memories m ≡ Some memory → slice_get (element_shapes memory) k ≡ Some t → element < memory.depth
      → Holds (words_of net s) (element_word net m memory element k) (kept t (s.contents m element k))
  element_there m element k memory t e f h = holds_at (words_of net s) (kept t (s.contents m element k)) (element_word net m memory element k)
      (at_inside (words_of net s) (words_of_memory memory (s.contents m)) (kept t (s.contents m element k)) (memory_word net m) _
      (at_inside (words_of net s) Memories (words_of_memory memory (s.contents m)) (count_words (register_shapes net)) (sum_by memory_words (take m net.memories))
      memories_there (memory_at net.memories s.contents m memory e))
      (at_inside (words_of_memory memory (s.contents m)) (kept_all (element_shapes memory) (s.contents m element)) (kept t (s.contents m element k)) (element * element_words memory) (count_words (take k (element_shapes memory)))
      (element_at memory (s.contents m) element h) (kept_at (element_shapes memory) (s.contents m element) k t f)))

  pub captured_there : (n : ℕ) (t : Shape) → slice_get (captured_shapes net) n ≡ Some t → Holds (words_of net s) (captured_word net n) (kept t (s.captured n))
  captured_there n t e = holds_at (words_of net s) (kept t (s.captured n)) (captured_word net n)
      (at_inside (words_of net s) (Memories ++ Captured) (kept t (s.captured n)) (count_words (register_shapes net)) _ rest_there
      (at_inside (Memories ++ Captured) Captured (kept t (s.captured n)) (sum_by memory_words net.memories) (count_words (take n (captured_shapes net)))
      (at_place (Memories ++ Captured) Captured _ _ memories_length (at_last Memories Captured))
      (kept_at (captured_shapes net) s.captured n t e)))
