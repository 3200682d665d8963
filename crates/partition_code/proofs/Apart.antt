-- A word is of one sink alone, and each word of a state is of a sink.
use Rattle.std.proofs.Common.{◌≡◌, ◌⊎◌, ⊎_elim, ℕ, ◌+◌, ◌-◌, ◌<◌, ◌≤◌, List, map, take, sum_by, slice_get, Option, Some, None, option_map, refl, sym, subst, ap, ◌∙◌, arith}
use Rattle.std.proofs.lemmas.Bool.{cases_lt}
use Rattle.std.proofs.lemmas.Option.{slice_get-map}
use Rattle.ground_net.specs.declared.net.Net.{Net}
use Rattle.ground_net.specs.declared.net.NetRegister.{NetRegister}
use Rattle.ground_net.specs.declared.net.NetMemory.{NetMemory}
use Rattle.ground_net.specs.Cones.{Sink, A_watched, A_register, A_memory}
use Rattle.ground_net.specs.Shapes.{Shape}
use Rattle.ground_net.specs.Cycles.{Capture, captures}
use Rattle.ground_net.specs.Nets.{shape_or_none, register_shapes, captured_shapes}
use Rattle.ground_net.specs.Words.{word_count, count_words, register_word, memory_words, memory_word, captured_word, state_words}
use Rattle.partition_code.specs.Effects.{HasWord, IsWordOf, register_shape, capture_shape, of_register, of_elements, of_capture}
use Rattle.partition_code.proofs.Parts.{sum_part, register_shape_at, capture_shape_at}
use Rattle.partition_code.proofs.Blocks.{some_same, none_some, IsIn, AtBlock, one_block, block_of}

-- the item that a mapped one comes from
mapped_at : {A B : Type 0} (f : A → B) (xs : List A) (k : ℕ) (y : B) (o : Option A) → slice_get xs k ≡ o → slice_get (map f xs) k ≡ Some y → (x : A) × (o ≡ Some x) × (f x ≡ y)
mapped_at f xs k y None e h = absurd (none_some (sym (slice_get-map f xs k ∙ ap (option_map f) e) ∙ h))
mapped_at f xs k y (Some x) e h = (x, refl, some_same (sym (slice_get-map f xs k ∙ ap (option_map f) e) ∙ h))

-- plain numbers

in_of : (a c i : ℕ) → a ≤ i → i < a + c → IsIn a c i
in_of a c i from below = record { from = from; below = below }

less_base : (r t c i : ℕ) → r + t ≤ i → i < (r + t) + c → IsIn t c (i - r)
less_base r t c i from below = record { from = omega (arith, from); below = omega (arith, from, below) }

less_bases : (r m t c i : ℕ) → r + (m + t) ≤ i → i < (r + (m + t)) + c → IsIn t c (i - (r + m))
less_bases r m t c i from below = record { from = omega (arith, from); below = omega (arith, from, below) }

with_base : (r t c i : ℕ) → r ≤ i → IsIn t c (i - r) → IsIn (r + t) c i
with_base r t c i le h = let l = h.from in let u = h.below in record { from = omega (arith, le, l); below = omega (arith, le, u) }

with_bases : (r m t c i : ℕ) → r + m ≤ i → IsIn t c (i - (r + m)) → IsIn (r + (m + t)) c i
with_bases r m t c i le h = let l = h.from in let u = h.below in record { from = omega (arith, le, l); below = omega (arith, le, u) }

early : (t c r i : ℕ) → t + c ≤ r → i < t + c → i < r
early t c r i h lt = omega (arith, h, lt)

middle : (r t c m i : ℕ) → t + c ≤ m → i < (r + t) + c → i < r + m
middle r t c m i h lt = omega (arith, h, lt)

behind_base : (r t i : ℕ) → r + t ≤ i → r ≤ i
behind_base r t i h = omega (arith, h)

behind_bases : (r m t i : ℕ) → r + (m + t) ≤ i → r + m ≤ i
behind_bases r m t i h = omega (arith, h)

cross : (a i : ℕ) → i < a → a ≤ i → ⊥
cross a i lt le = omega (arith, lt, le)

cross_both : (r m i : ℕ) → i < r → r + m ≤ i → ⊥
cross_both r m i lt le = omega (arith, lt, le)

left_over : (r m i : ℕ) → r ≤ i → i < r + m → i - r < m
left_over r m i le lt = omega (arith, le, lt)

left_over_both : (r m c i : ℕ) → r + m ≤ i → i < r + (m + c) → i - (r + m) < c
left_over_both r m c i le lt = omega (arith, le, lt)

past_both : (r m i : ℕ) → r ≤ i → m ≤ i - r → r + m ≤ i
past_both r m i le h = omega (arith, le, h)

module _ (net : Net) where
  abbrev Registers : ℕ
  Registers = count_words (register_shapes net)

  abbrev Memories : ℕ
  Memories = sum_by memory_words net.memories

  -- the words of registers, then those of memories, then those of captured reads

  register_zone : (n i : ℕ) (register : NetRegister) → slice_get net.registers n ≡ Some register → IsWordOf (register_word net n) (register_shape net register) i → i < Registers
  register_zone n i register there is =
      early (register_word net n) (word_count (register_shape net register)) Registers i
      (sum_part word_count (register_shapes net) n (register_shape net register) (register_shape_at net n register there)) is.1

  memory_end : (m i : ℕ) (memory : NetMemory) → slice_get net.memories m ≡ Some memory → i < memory_word net m + memory_words memory → i < Registers + Memories
  memory_end m i memory there below =
      middle Registers (sum_by memory_words (take m net.memories)) (memory_words memory) Memories i (sum_part memory_words net.memories m memory there) below

  memory_begin : (m i : ℕ) → memory_word net m ≤ i → Registers ≤ i
  memory_begin m i from = behind_base Registers (sum_by memory_words (take m net.memories)) i from

  capture_zone : (n i : ℕ) (s : Shape) → IsWordOf (captured_word net n) s i → Registers + Memories ≤ i
  capture_zone n i s is = behind_bases Registers Memories (count_words (take n (captured_shapes net))) i is.0

  -- two of a sort

  one_register : (n k i : ℕ) (register other : NetRegister) → slice_get net.registers n ≡ Some register → slice_get net.registers k ≡ Some other
      → IsWordOf (register_word net n) (register_shape net register) i → IsWordOf (register_word net k) (register_shape net other) i → n ≡ k
  one_register n k i register other there at is it =
      one_block word_count (register_shapes net) n k i (register_shape net register) (register_shape net other) (register_shape_at net n register there) (register_shape_at net k other at)
      (in_of (register_word net n) (word_count (register_shape net register)) i is.0 is.1) (in_of (register_word net k) (word_count (register_shape net other)) i it.0 it.1)

  one_memory : (m k i : ℕ) (memory other : NetMemory) → slice_get net.memories m ≡ Some memory → slice_get net.memories k ≡ Some other
      → memory_word net m ≤ i → i < memory_word net m + memory_words memory → memory_word net k ≤ i → i < memory_word net k + memory_words other → m ≡ k
  one_memory m k i memory other there at from below since until =
      one_block memory_words net.memories m k (i - Registers) memory other there at
      (less_base Registers (sum_by memory_words (take m net.memories)) (memory_words memory) i from below)
      (less_base Registers (sum_by memory_words (take k net.memories)) (memory_words other) i since until)

  one_capture : (n k i : ℕ) (c d : Capture) → slice_get (captures net) n ≡ Some c → slice_get (captures net) k ≡ Some d
      → IsWordOf (captured_word net n) (capture_shape net c) i → IsWordOf (captured_word net k) (capture_shape net d) i → n ≡ k
  one_capture n k i c d there at is it =
      one_block word_count (captured_shapes net) n k (i - (Registers + Memories)) (capture_shape net c) (capture_shape net d) (capture_shape_at net n c there) (capture_shape_at net k d at)
      (less_bases Registers Memories (count_words (take n (captured_shapes net))) (word_count (capture_shape net c)) i is.0 is.1)
      (less_bases Registers Memories (count_words (take k (captured_shapes net))) (word_count (capture_shape net d)) i it.0 it.1)

  same_number : (n k : ℕ) (c d : Capture) → slice_get (captures net) n ≡ Some c → slice_get (captures net) k ≡ Some d → n ≡ k → c.number ≡ d.number
  same_number n k c d there at e = ap (λ (x : Capture). x.number) (some_same (sym there ∙ (ap (slice_get (captures net)) e ∙ at)))

  -- a word of one sink is of no other
  pub one_sink : (a b : Sink) (i : ℕ) → HasWord net a i → HasWord net b i → a ≡ b
  one_sink (A_watched x) b i has other = elim has [ ]
  one_sink (A_register n) (A_watched x) i has other = elim other [ ]
  one_sink (A_register n) (A_register k) i (of_register register there is) (of_register another at it) = ap A_register (one_register n k i register another there at is it)
  one_sink (A_register n) (A_memory m) i (of_register register there is) (of_elements memory at from below) = absurd (cross Registers i (register_zone n i register there is) (memory_begin m i from))
  one_sink (A_register n) (A_memory m) i (of_register register there is) (of_capture k c at number it) = absurd (cross_both Registers Memories i (register_zone n i register there is) (capture_zone k i (capture_shape net c) it))
  one_sink (A_memory m) (A_watched x) i has other = elim other [ ]
  one_sink (A_memory m) (A_register n) i (of_elements memory at from below) (of_register register there is) = absurd (cross Registers i (register_zone n i register there is) (memory_begin m i from))
  one_sink (A_memory m) (A_register n) i (of_capture k c at number it) (of_register register there is) = absurd (cross_both Registers Memories i (register_zone n i register there is) (capture_zone k i (capture_shape net c) it))
  one_sink (A_memory m) (A_memory k) i (of_elements memory there from below) (of_elements another at since until) = ap A_memory (one_memory m k i memory another there at from below since until)
  one_sink (A_memory m) (A_memory k) i (of_elements memory there from below) (of_capture n c at number it) = absurd (cross (Registers + Memories) i (memory_end m i memory there below) (capture_zone n i (capture_shape net c) it))
  one_sink (A_memory m) (A_memory k) i (of_capture n c at number it) (of_elements memory there from below) = absurd (cross (Registers + Memories) i (memory_end k i memory there below) (capture_zone n i (capture_shape net c) it))
  one_sink (A_memory m) (A_memory k) i (of_capture n c there number is) (of_capture q d at other it) =
      ap A_memory (sym number ∙ (same_number n q c d there at (one_capture n q i c d there at is it) ∙ other))

  -- a sink of a word
  abbrev pub Of : ℕ → Type 0
  Of i = (sink : Sink) × HasWord net sink i

  of_registers : (i : ℕ) → i < Registers → Of i
  of_registers i lt =
      let h = block_of word_count (register_shapes net) i lt in
      let r = mapped_at (λ (r : NetRegister). shape_or_none (slice_get net.leaves r.leaf)) net.registers h.number h.item (slice_get net.registers h.number) refl h.there in
      let l = h.is.from in
      let u = h.is.below in
      (A_register h.number, of_register r.0 r.1 (l, subst (λ s. i < register_word net h.number + word_count s) (sym r.2) u))

  of_memories : (i : ℕ) → Registers ≤ i → i - Registers < Memories → Of i
  of_memories i le lt =
      let h = block_of memory_words net.memories (i - Registers) lt in
      let w = with_base Registers (sum_by memory_words (take h.number net.memories)) (memory_words h.item) i le h.is in
      (A_memory h.number, of_elements h.item h.there w.from w.below)

  of_captures : (i : ℕ) → Registers + Memories ≤ i → i < state_words net → Of i
  of_captures i le lt =
      let h = block_of word_count (captured_shapes net) (i - (Registers + Memories)) (left_over_both Registers Memories (count_words (captured_shapes net)) i le lt) in
      let r = mapped_at (λ (c : Capture). shape_or_none (slice_get net.leaves c.leaf)) (captures net) h.number h.item (slice_get (captures net) h.number) refl h.there in
      let w = with_bases Registers Memories (count_words (take h.number (captured_shapes net))) (word_count h.item) i le h.is in
      (A_memory r.0.number, of_capture h.number r.0 r.1 refl (w.from, subst (λ s. i < captured_word net h.number + word_count s) (sym r.2) w.below))

  pub sink_of_word : (i : ℕ) → i < state_words net → Of i
  sink_of_word i lt = ⊎_elim
      (λ here. of_registers i here)
      (λ past. ⊎_elim
      (λ here. of_memories i past here)
      (λ far. of_captures i (past_both Registers Memories i past far) lt)
      (cases_lt (i - Registers) Memories))
      (cases_lt i Registers)
