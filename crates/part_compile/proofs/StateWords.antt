-- How many words a state has.
use Rattle.std.proofs.Common.{◌≡◌, ℕ, ◌+◌, ◌*◌, ◌<◌, ◌≤◌, ◌^◌, min, nat_lt, Bool, true, false, if◌then◌else◌, ⊎_elim, List, [], ◌∷◌, length, slice_get, sum_by, Some, None, refl, sym, ap, ◌∙◌, arith}
use Rattle.std.proofs.lemmas.List.{length-map, take_all}
use Rattle.std.proofs.lemmas.List.Sums.{sum_by-cons}
use Rattle.std.proofs.lemmas.Option.{slice_get_cases}
use Rattle.ground_net.specs.declared.net.Net.{Net}
use Rattle.ground_net.specs.declared.net.NetMemory.{NetMemory}
use Rattle.ground_net.specs.declared.net.NetRegister.{NetRegister}
use Rattle.ground_net.specs.Shapes.{Shape}
use Rattle.ground_net.specs.Cycles.{Capture, captures}
use Rattle.ground_net.specs.Nets.{register_shapes, captured_shapes, shape_or_none}
use Rattle.ground_net.specs.Words.{word_count, count_words, register_word, captured_word, memory_words, state_words}

one_or_two : (b : Bool) → (if b then 2 else 1) ≤ 2
one_or_two true = omega arith
one_or_two false = omega arith

pub two_each : (shapes : List Shape) → count_words shapes ≤ 2 * length shapes
two_each [] = omega arith
two_each (s ∷ shapes) =
    let sum = sum_by-cons word_count s shapes in
    let one : word_count s ≤ 2 = one_or_two (nat_lt 64 s.width) in
    let rest = two_each shapes in
    omega (arith, sum, one, rest)

pub registers_two_each : (net : Net) → count_words (register_shapes net) ≤ 2 * length net.registers
registers_two_each net =
    let long = length-map net.registers (λ (r : NetRegister). shape_or_none (slice_get net.leaves r.leaf)) in
    let two = two_each (register_shapes net) in
    omega (arith, long, two)

captured_two_each : (net : Net) → count_words (captured_shapes net) ≤ 2 * length (captures net)
captured_two_each net =
    let long = length-map (captures net) (λ (c : Capture). shape_or_none (slice_get net.leaves c.leaf)) in
    let two = two_each (captured_shapes net) in
    omega (arith, long, two)

-- the word behind the last register
pub behind_registers : (net : Net) → register_word net (length net.registers) ≡ count_words (register_shapes net)
behind_registers net =
    let long = length-map net.registers (λ (r : NetRegister). shape_or_none (slice_get net.leaves r.leaf)) in
    ap count_words (take_all (length net.registers) (register_shapes net) (omega (arith, long)))

-- a state's words are few where those of its registers and memories are
pub few_in_all : (net : Net) (behind reads : ℕ) → reads ≡ length (captures net) → count_words (register_shapes net) + sum_by memory_words net.memories ≤ behind → behind + 2 * reads < 2 ^ 32 → state_words net < 2 ^ 32
few_in_all net behind reads all le few =
    let two = captured_two_each net in
    plain (count_words (register_shapes net)) (sum_by memory_words net.memories) (count_words (captured_shapes net)) (length (captures net)) all two le few
  where
    plain : (r m c n : ℕ) → reads ≡ n → c ≤ 2 * n → r + m ≤ behind → behind + 2 * reads < 2 ^ 32 → r + (m + c) < 2 ^ 32
    plain r m c n e two le few = omega (arith, e, two, le, few)

no_memory : (memories : List NetMemory) → length memories ≡ 0 → sum_by memory_words memories ≡ 0
no_memory [] e = refl
no_memory (m ∷ ms) e = absurd (omega (arith, e))

-- without memories
pub registers_alone : (net : Net) → length net.memories ≡ 0 → count_words (register_shapes net) + sum_by memory_words net.memories ≤ 2 * length net.registers
registers_alone net none =
    let two = registers_two_each net in
    let zero_sum = no_memory net.memories none in
    omega (arith, two, zero_sum)

-- what is counted without bounds of numbers
pub behind_last : (word first words whole product count most sum top : ℕ) → product ≡ words → count ≡ min product most → sum ≡ min (count + word) top → first + words ≡ whole → word ≡ first → 2 ^ 32 ≤ most → 2 ^ 32 ≤ top → sum < 2 ^ 32 → whole ≤ sum
behind_last word first words whole product count most sum top e c s w f m t lt = omega (arith, e, c, s, w, f, m, t, lt)

-- the word behind the last captured read is the word behind all
pub behind_all : (net : Net) → captured_word net (length (captures net)) ≡ state_words net
behind_all net =
    let long = length-map (captures net) (λ (c : Capture). shape_or_none (slice_get net.leaves c.leaf)) in
    ap (λ l. count_words (register_shapes net) + (sum_by memory_words net.memories + count_words l)) (take_all (length (captures net)) (captured_shapes net) (omega (arith, long)))

-- there is an item at each number below the length
some_none : {A : Type 0} {x : A} → Some x ≡ None → ⊥
some_none e = cc

pub none_past : {A : Type 0} (xs : List A) (k : ℕ) → slice_get xs k ≡ None → k < length xs → ⊥
none_past xs k e lt = ⊎_elim (λ here. some_none (sym here.2 ∙ e)) (λ past. omega (arith, lt, past.0)) (slice_get_cases xs k).1
