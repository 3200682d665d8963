-- What a sink leaves is at words of its own, each a number of 64 bits.
use Rattle.std.proofs.Common.{◌≡◌, ℕ, ◌+◌, ◌*◌, ◌/◌, ◌%◌, ◌^◌, ◌<◌, ◌≤◌, ◌&&◌, ◌==◌, min, Bool, true, false, List, [], ◌∷◌, ◌++◌, take, slice_get, Option, Some, None, nat_lt, if◌then◌else◌, refl, sym, subst, ap, ◌∙◌, arith, pow-add, pow_pos, pow_mono, mod-lt, div-lt_iff_lt-mul}
use Rattle.std.proofs.lemmas.Bool.{ltb-true, eqb-true}
use Rattle.std.proofs.lemmas.Bool.Decides.{nat_tests}
use Rattle.bit_words.specs.declared.value.Value.{Value}
use Rattle.phase_core.specs.declared.model.Publication.{Publication}
use Rattle.ground_net.specs.declared.net.Net.{Net}
use Rattle.ground_net.specs.declared.net.NetRegister.{NetRegister}
use Rattle.ground_net.specs.declared.net.NetMemory.{NetMemory}
use Rattle.ground_net.specs.declared.net.NetPort.{NetPort}
use Rattle.ground_net.specs.Grounds.{Instant}
use Rattle.ground_net.specs.Cones.{Sink, A_watched, A_register, A_memory, numbered}
use Rattle.prim_ops.specs.Values.{fitted}
use Rattle.ground_net.specs.Shapes.{Shape}
use Rattle.ground_net.specs.Cycles.{NetState, Capture, captures, shown, next}
use Rattle.ground_net.specs.Nets.{element_shapes}
use Rattle.ground_net.specs.Words.{word_count, count_words, register_word, memory_word, memory_words, element_word, element_words, captured_word}
use Rattle.flat_code.specs.Meaning.{stored}
use Rattle.partition_code.specs.Effects.{HasWord, register_shape, capture_shape, of_register, of_elements, of_capture, register_told, leaf_told, port_told, writes_told, capture_told, captures_told, memory_told, sink_told}
use Rattle.partition_code.proofs.Parts.{element_part}
use Rattle.partition_code.proofs.Lists.{Each, each_none, each_cons, each_append, each_flat, from_numbered}

-- a publication of one of so many words from a word on, by a number of 64 bits
pub record IsAt (at count : ℕ) (p : Publication) : Type 0 where
  pub from : at ≤ p.word
  pub below : p.word < at + count
  pub plain : p.value < 2 ^ 64

low_part : (b : ℕ) → b % 2 ^ 64 < 2 ^ 64
low_part b = mod-lt b (pow_pos 64)

high_part : (b w : ℕ) → b < 2 ^ w → w ≤ 128 → b / 2 ^ 64 < 2 ^ 64
high_part b w lt le =
    let most : 2 ^ w ≤ 2 ^ 128 = pow_mono le in
    let square : 2 ^ 128 ≡ 2 ^ 64 * 2 ^ 64 = pow-add 2 64 64 in
    (div-lt_iff_lt-mul (pow_pos 64)).1 (within b (2 ^ w) (2 ^ 128) (2 ^ 64 * 2 ^ 64) lt most square)
  where
    within : (b m n k : ℕ) → b < m → m ≤ n → n ≡ k → b < k
    within b m n k lt le e = omega (arith, lt, le, e)

stored_at : (at : ℕ) (v : Value) (b : Bool) → nat_lt 64 v.width ≡ b → Each (IsAt at (if b then 2 else 1)) (stored at v)
stored_at at v true e = subst (λ c. Each (IsAt at 2) (if c then record { word = at; value = v.bits % 2 ^ 64 } ∷ record { word = at + 1; value = v.bits / 2 ^ 64 } ∷ [] else record { word = at; value = v.bits % 2 ^ 64 } ∷ [])) (sym e)
    (each_cons (IsAt at 2) (record { word = at; value = v.bits % 2 ^ 64 }) (record { word = at + 1; value = v.bits / 2 ^ 64 } ∷ [])
    (record { from = omega arith; below = omega arith; plain = low_part v.bits })
    (each_cons (IsAt at 2) (record { word = at + 1; value = v.bits / 2 ^ 64 }) [] (record { from = omega arith; below = omega arith; plain = high_part v.bits v.width v.within v.narrow }) (each_none (IsAt at 2))))
stored_at at v false e = subst (λ c. Each (IsAt at 1) (if c then record { word = at; value = v.bits % 2 ^ 64 } ∷ record { word = at + 1; value = v.bits / 2 ^ 64 } ∷ [] else record { word = at; value = v.bits % 2 ^ 64 } ∷ [])) (sym e)
    (each_cons (IsAt at 1) (record { word = at; value = v.bits % 2 ^ 64 }) [] (record { from = omega arith; below = omega arith; plain = low_part v.bits }) (each_none (IsAt at 1)))

narrowed : (w : ℕ) → nat_lt 64 (min w 128) ≡ nat_lt 64 w
narrowed w = grind (arith, nat_tests)

kept_at : (at : ℕ) (s : Shape) (v : Value) → v.width ≡ min s.width 128 → Each (IsAt at (word_count s)) (stored at v)
kept_at at s v e = stored_at at v (nat_lt 64 s.width) (ap (nat_lt 64) e ∙ narrowed s.width)

each_more : (P Q : Publication → Type 0) (ps : List Publication) → ((p : Publication) → P p → Q p) → Each P ps → Each Q ps
each_more P Q ps f h k p e = f p (h k p e)

-- what is so where a test holds
each_where : (P : Publication → Type 0) (ps : List Publication) (b : Bool) → (b ≡ true → Each P ps) → Each P (if b then ps else [])
each_where P ps true h = h refl
each_where P ps false h = each_none P

all_three : (a b c : Bool) → ((a && b) && c) ≡ true → b ≡ true
all_three true true c e = refl
all_three true false c e = cc
all_three false b c e = cc

module _ (net : Net) (st : NetState) (instant : Instant) where
  -- a publication of a sink
  pub record IsOwn (sink : Sink) (p : Publication) : Type 0 where
    pub has : HasWord net sink p.word
    pub plain : p.value < 2 ^ 64

  register_own : (n : ℕ) (o : Option NetRegister) → slice_get net.registers n ≡ o → Each (IsOwn (A_register n)) (register_told net st instant n o)
  register_own n None e = each_none (IsOwn (A_register n))
  register_own n (Some register) e =
      let s = register_shape net register in
      let v = fitted s.kind s.width ((next net st instant).registers n) in
      each_more (IsAt (register_word net n) (word_count s)) (IsOwn (A_register n)) (stored (register_word net n) v)
      (λ p h. record { has = of_register register e (h.from, h.below); plain = h.plain })
      (kept_at (register_word net n) s v refl)

  module _ (m : ℕ) (memory : NetMemory) (there : slice_get net.memories m ≡ Some memory) where
    element_own : (k b : ℕ) (s : Shape) (p : Publication) → slice_get (element_shapes memory) k ≡ Some s → b < memory.depth → IsAt (element_word net m memory b k) (word_count s) p → IsOwn (A_memory m) p
    element_own k b s p at lt h =
        let part = element_part memory b k s lt at in
        let from = h.from in
        let below = h.below in
        record {
          has = of_elements memory there
              (begins (memory_word net m) (b * element_words memory + count_words (take k (element_shapes memory))) p.word from)
              (ends (memory_word net m) (b * element_words memory + count_words (take k (element_shapes memory))) (word_count s) (memory_words memory) p.word part below);
          plain = h.plain;
        }
      where
        begins : (m t i : ℕ) → m + t ≤ i → m ≤ i
        begins m t i h = omega (arith, h)

        ends : (m t c n i : ℕ) → t + c ≤ n → i < (m + t) + c → i < m + n
        ends m t c n i h lt = omega (arith, h, lt)

    leaf_own : (port : NetPort) (k : ℕ) (both : ℕ × Shape) → slice_get (numbered (element_shapes memory)) k ≡ Some both → Each (IsOwn (A_memory m)) (leaf_told net m memory (shown instant port) both)
    leaf_own port k both e =
        let q = shown instant port in
        let n = from_numbered 0 (element_shapes memory) k both e in
        let z : 0 + k ≡ k = omega arith in
        let at : slice_get (element_shapes memory) both.0 ≡ Some both.1 = ap (slice_get (element_shapes memory)) (n.0 ∙ z) ∙ n.1 in
        let v = fitted both.1.kind both.1.width (q.written both.0) in
        each_where (IsOwn (A_memory m)) (stored (element_word net m memory q.address both.0) v) ((q.writes && nat_lt q.address memory.depth) && q.masked both.0)
        (λ yes. each_more (IsAt (element_word net m memory q.address both.0) (word_count both.1)) (IsOwn (A_memory m)) (stored (element_word net m memory q.address both.0) v)
        (λ p h. element_own both.0 q.address both.1 p at (ltb-true q.address memory.depth (all_three q.writes (nat_lt q.address memory.depth) (q.masked both.0) yes)) h)
        (kept_at (element_word net m memory q.address both.0) both.1 v refl))

    writes_own : Each (IsOwn (A_memory m)) (writes_told net instant m memory)
    writes_own = each_flat (IsOwn (A_memory m)) (port_told net instant m memory) memory.ports
        (λ j port e. each_flat (IsOwn (A_memory m)) (leaf_told net m memory (shown instant port)) (numbered (element_shapes memory)) (λ k both f. leaf_own port k both f))

  capture_own : (m k : ℕ) (both : ℕ × Capture) → slice_get (numbered (captures net)) k ≡ Some both → Each (IsOwn (A_memory m)) (capture_told net st instant m both)
  capture_own m k both e =
      let n = from_numbered 0 (captures net) k both e in
      let z : 0 + k ≡ k = omega arith in
      let at : slice_get (captures net) both.0 ≡ Some both.1 = ap (slice_get (captures net)) (n.0 ∙ z) ∙ n.1 in
      let s = capture_shape net both.1 in
      let v = fitted s.kind s.width ((next net st instant).captured both.0) in
      each_where (IsOwn (A_memory m)) (stored (captured_word net both.0) v) (both.1.number == m)
      (λ yes. each_more (IsAt (captured_word net both.0) (word_count s)) (IsOwn (A_memory m)) (stored (captured_word net both.0) v)
      (λ p h. record { has = of_capture both.0 both.1 at (eqb-true both.1.number m yes) (h.from, h.below); plain = h.plain })
      (kept_at (captured_word net both.0) s v refl))

  memory_own : (m : ℕ) (o : Option NetMemory) → slice_get net.memories m ≡ o → Each (IsOwn (A_memory m)) (memory_told net st instant m o)
  memory_own m None e = each_none (IsOwn (A_memory m))
  memory_own m (Some memory) e = each_append (IsOwn (A_memory m)) (writes_told net instant m memory) (captures_told net st instant m) (writes_own m memory e)
      (each_flat (IsOwn (A_memory m)) (capture_told net st instant m) (numbered (captures net)) (λ k both f. capture_own m k both f))

  pub told_own : (s : Sink) → Each (IsOwn s) (sink_told net st instant s)
  told_own (A_watched x) = each_none (IsOwn (A_watched x))
  told_own (A_register n) = register_own n (slice_get net.registers n) refl
  told_own (A_memory m) = memory_own m (slice_get net.memories m) refl
