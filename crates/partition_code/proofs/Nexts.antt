-- What the publications of a word's sink leave there is the next state's word.
use Rattle.std.proofs.Common.{◌≡◌, ℕ, ◌+◌, ◌-◌, ◌<◌, ◌≤◌, List, take, sum_by, length, slice_get, slice_index, Some, refl, sym, subst, ap, ◌∙◌, arith}
use Rattle.phase_core.specs.Script.{published}
use Rattle.phase_core.proofs.Values.{length-published, published-append}
use Rattle.prim_ops.specs.Values.{fitted}
use Rattle.ground_net.specs.declared.net.Net.{Net}
use Rattle.ground_net.specs.declared.net.NetRegister.{NetRegister}
use Rattle.ground_net.specs.declared.net.NetMemory.{NetMemory}
use Rattle.ground_net.specs.Grounds.{Instant}
use Rattle.ground_net.specs.Cones.{Sink, A_watched, A_register, A_memory}
use Rattle.ground_net.specs.Cycles.{NetState, Capture, captures, next_of_memory, next}
use Rattle.ground_net.specs.Nets.{IsNet, IsWithin, register_shapes}
use Rattle.ground_net.specs.Words.{kept, word_count, count_words, words_of, register_word, memory_words, memory_word, element_word, captured_word}
use Rattle.ground_net.proofs.Placing.{kept_length}
use Rattle.ground_net.proofs.Ranges.{capture_from}
use Rattle.flat_code.specs.Meaning.{stored}
use Rattle.partition_code.specs.Effects.{HasWord, register_shape, capture_shape, of_register, of_elements, of_capture, register_told, writes_told, captures_told, memory_told, sink_told}
use Rattle.partition_code.proofs.Parts.{sum_part, register_shape_at, capture_shape_at, register_part}
use Rattle.partition_code.proofs.Publishing.{silent}
use Rattle.partition_code.proofs.Back.{again, next_register_again, next_capture_again}
use Rattle.partition_code.proofs.Placed.{Holds, words_counted, register_there, element_there, captured_there}
use Rattle.partition_code.proofs.Left.{kept_stored}
use Rattle.partition_code.proofs.Writes.{of_element, writes_left}
use Rattle.partition_code.proofs.Captures.{before_captures, capture_left}

-- a word of two lists that hold one piece
held_alike : (words other piece : List ℕ) (at i : ℕ) → Holds words at piece → Holds other at piece → at ≤ i → i < at + length piece → slice_index words i ≡ slice_index other i
held_alike words other piece at i h g from below =
    let z : at + (i - at) ≡ i = omega (arith, from) in
    let lt : i - at < length piece = omega (arith, from, below) in
    subst (λ n. slice_index words n ≡ slice_index other n) z (h (i - at) lt ∙ sym (g (i - at) lt))

module _ (net : Net) (w : IsNet net) (s : NetState) (inside : IsWithin net s) (instant : Instant) where
  abbrev Words : List ℕ
  Words = words_of net s

  abbrev Later : List ℕ
  Later = words_of net (next net s instant)

  register_word_next : (n i : ℕ) (register : NetRegister) → slice_get net.registers n ≡ Some register → register_word net n ≤ i → i < register_word net n + word_count (register_shape net register)
      → slice_index (published (register_told net (again net s) instant n (slice_get net.registers n)) Words) i ≡ slice_index Later i
  register_word_next n i register there from below =
      let t = register_shape net register in
      let at = register_shape_at net n register there in
      let v = (next net s instant).registers n in
      let told : register_told net (again net s) instant n (slice_get net.registers n) ≡ stored (register_word net n) (fitted t.kind t.width v) =
      ap (register_told net (again net s) instant n) there ∙ ap (λ u. stored (register_word net n) (fitted t.kind t.width u)) (next_register_again net s inside w instant n register there) in
      let room : register_word net n + word_count t ≤ length Words = subst (λ l. register_word net n + word_count t ≤ l) (sym (words_counted net s)) (register_part net n t at) in
      ap (λ ps. slice_index (published ps Words) i) told
      ∙ held_alike (published (stored (register_word net n) (fitted t.kind t.width v)) Words) Later (kept t v) (register_word net n) i (kept_stored (register_word net n) t v Words room)
      (register_there net (next net s instant) n t at) from (subst (λ c. i < register_word net n + c) (sym (kept_length t v)) below)

  memory_both : (m : ℕ) (memory : NetMemory) → slice_get net.memories m ≡ Some memory
      → published (memory_told net (again net s) instant m (slice_get net.memories m)) Words ≡ published (captures_told net (again net s) instant m) (published (writes_told net instant m memory) Words)
  memory_both m memory there =
      ap (λ o. published (memory_told net (again net s) instant m o) Words) there ∙ published-append (writes_told net instant m memory) (captures_told net (again net s) instant m) Words

  element_word_next : (m i : ℕ) (memory : NetMemory) → slice_get net.memories m ≡ Some memory → memory_word net m ≤ i → i < memory_word net m + memory_words memory
      → slice_index (published (memory_told net (again net s) instant m (slice_get net.memories m)) Words) i ≡ slice_index Later i
  element_word_next m i memory there from below =
      let e = of_element net m memory there i from below in
      let v = next_of_memory instant (Some memory) (s.contents m) e.element e.leaf in
      let is : (next net s instant).contents m e.element e.leaf ≡ v = ap (λ o. next_of_memory instant o (s.contents m) e.element e.leaf) there in
      let fits : e.part < length (kept e.shape v) = subst (λ c. e.part < c) (sym (kept_length e.shape v)) e.inside in
      let new = writes_left net m memory there instant memory.ports (s.contents m) Words (words_counted net s)
      (λ b k t lt f. element_there net s m b k memory t there f lt) e.element e.leaf e.shape e.below e.listed e.part fits in
      let old = subst (λ u. Holds Later (element_word net m memory e.element e.leaf) (kept e.shape u)) is
      (element_there net (next net s instant) m e.element e.leaf memory e.shape there e.listed e.below) e.part fits in
      ap (λ l. slice_index l i) (memory_both m memory there)
      ∙ (silent (captures_told net (again net s) instant m) (published (writes_told net instant m memory) Words) i
      (before_captures net (again net s) instant m i (early (count_words (register_shapes net)) (sum_by memory_words (take m net.memories)) (memory_words memory) (sum_by memory_words net.memories) i
      (sum_part memory_words net.memories m memory there) below))
      ∙ subst (λ n. slice_index (published (writes_told net instant m memory) Words) n ≡ slice_index Later n) e.is (new ∙ sym old))
    where
      early : (r t c m i : ℕ) → t + c ≤ m → i < (r + t) + c → i < r + m
      early r t c m i h lt = omega (arith, h, lt)

  captured_word_next : (n i : ℕ) (c : Capture) (memory : NetMemory) → slice_get (captures net) n ≡ Some c → slice_get net.memories c.number ≡ Some memory → captured_word net n ≤ i
      → i < captured_word net n + word_count (capture_shape net c) → slice_index (published (memory_told net (again net s) instant c.number (slice_get net.memories c.number)) Words) i ≡ slice_index Later i
  captured_word_next n i c memory there of from below =
      let t = capture_shape net c in
      let at = capture_shape_at net n c there in
      let v = (next net s instant).captured n in
      let written = published (writes_told net instant c.number memory) Words in
      let left = subst (λ u. Holds (published (captures_told net (again net s) instant c.number) written) (captured_word net n) (kept t u)) (next_capture_again net s inside w instant n c there)
      (capture_left net (again net s) instant c.number n c written (length-published (writes_told net instant c.number memory) Words ∙ words_counted net s) there refl) in
      ap (λ l. slice_index l i) (memory_both c.number memory of)
      ∙ held_alike (published (captures_told net (again net s) instant c.number) written) Later (kept t v) (captured_word net n) i left
      (captured_there net (next net s instant) n t at) from (subst (λ k. i < captured_word net n + k) (sym (kept_length t v)) below)

  pub word_next : (sink : Sink) (i : ℕ) → HasWord net sink i → slice_index (published (sink_told net (again net s) instant sink) Words) i ≡ slice_index Later i
  word_next (A_watched x) i has = elim has [ ]
  word_next (A_register n) i (of_register register there is) = register_word_next n i register there is.0 is.1
  word_next (A_memory m) i (of_elements memory there from below) = element_word_next m i memory there from below
  word_next (A_memory m) i (of_capture n c there number is) =
      subst (λ k. slice_index (published (memory_told net (again net s) instant k (slice_get net.memories k)) Words) i ≡ slice_index Later i) number
      (captured_word_next n i c c.memory there (capture_from net n c there).there is.0 is.1)
