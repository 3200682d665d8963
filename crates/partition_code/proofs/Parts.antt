-- Where the words of registers, of memories and of captured reads stand among all words.
use Rattle.std.proofs.Common.{◌≡◌, ℕ, suc, ◌+◌, ◌*◌, ◌<◌, ◌≤◌, Bool, true, false, List, take, sum_by, slice_get, Option, Some, option_map, nat_lt, if◌then◌else◌, refl, sym, subst, ap, ◌∙◌, arith}
use Rattle.std.proofs.Math.Nat.{mul-le-mul_right, suc-mul}
use Rattle.std.proofs.lemmas.List.Sums.{sum_by_more_le}
use Rattle.std.proofs.lemmas.Option.{slice_get-map, slice_get_within, get_or_from_slice_get}
use Rattle.ground_net.specs.declared.net.Net.{Net}
use Rattle.ground_net.specs.declared.net.NetRegister.{NetRegister}
use Rattle.ground_net.specs.declared.net.NetMemory.{NetMemory}
use Rattle.ground_net.specs.Cones.{Sink, A_watched, A_register, A_memory}
use Rattle.ground_net.specs.Shapes.{Shape}
use Rattle.ground_net.specs.Cycles.{Capture, captures}
use Rattle.ground_net.specs.Nets.{shape_or_none, register_shapes, element_shapes, captured_shapes}
use Rattle.ground_net.specs.Words.{word_count, count_words, register_word, element_words, memory_words, memory_word, element_word, captured_word, state_words}
use Rattle.flat_code.specs.Fine.{further_words}
use Rattle.partition_code.specs.Effects.{HasWord, register_shape, capture_shape, of_register, of_elements, of_capture}

-- an item's part of a sum
pub sum_part : {A : Type 0} (f : A → ℕ) (xs : List A) (k : ℕ) (x : A) → slice_get xs k ≡ Some x → sum_by f (take k xs) + f x ≤ sum_by f xs
sum_part f xs k x e = subst (λ y. sum_by f (take k xs) + f y ≤ sum_by f xs) (get_or_from_slice_get xs k x x e) (sum_by_more_le f xs k x (slice_get_within xs k x e))

pub further_is : (s : Shape) → word_count s ≡ further_words s.width + 1
further_is s = by_test (nat_lt 64 s.width)
  where
    by_test : (b : Bool) → (if b then 2 else 1) ≡ (if b then 1 else 0) + 1
    by_test true = refl
    by_test false = refl

below_all : (a w r m : ℕ) → a + w ≤ r → a + w ≤ r + m
below_all a w r m h = omega (arith, h)

behind_both : (r m t w c : ℕ) → t + w ≤ c → (r + (m + t)) + w ≤ r + (m + c)
behind_both r m t w c h = omega (arith, h)

between : (r s m c w : ℕ) → s + w ≤ m → (r + s) + w ≤ r + (m + c)
between r s m c w h = omega (arith, h)

-- the words of a register, a memory, and a captured read are among all
pub register_part : (net : Net) (n : ℕ) (s : Shape) → slice_get (register_shapes net) n ≡ Some s → register_word net n + word_count s ≤ state_words net
register_part net n s e =
    below_all (register_word net n) (word_count s) (count_words (register_shapes net)) (sum_by memory_words net.memories + count_words (captured_shapes net)) (sum_part word_count (register_shapes net) n s e)

pub memory_part : (net : Net) (m : ℕ) (memory : NetMemory) → slice_get net.memories m ≡ Some memory → memory_word net m + memory_words memory ≤ state_words net
memory_part net m memory e =
    between (count_words (register_shapes net)) (sum_by memory_words (take m net.memories)) (sum_by memory_words net.memories) (count_words (captured_shapes net)) (memory_words memory)
    (sum_part memory_words net.memories m memory e)

pub captured_part : (net : Net) (n : ℕ) (s : Shape) → slice_get (captured_shapes net) n ≡ Some s → captured_word net n + word_count s ≤ state_words net
captured_part net n s e =
    behind_both (count_words (register_shapes net)) (sum_by memory_words net.memories) (count_words (take n (captured_shapes net))) (word_count s) (count_words (captured_shapes net))
    (sum_part word_count (captured_shapes net) n s e)

-- the words of a leaf of an element are among those of the memory
pub element_part : (memory : NetMemory) (b k : ℕ) (s : Shape) → b < memory.depth → slice_get (element_shapes memory) k ≡ Some s
    → b * element_words memory + count_words (take k (element_shapes memory)) + word_count s ≤ memory_words memory
element_part memory b k s lt e =
    let w = element_words memory in
    let rows : suc b * w ≤ memory.depth * w = mul-le-mul_right w (omega (arith, lt)) in
    plain (b * w) (count_words (take k (element_shapes memory))) (word_count s) w (memory.depth * w) (subst (λ x. x ≤ memory.depth * w) (suc-mul b w) rows) (sum_part word_count (element_shapes memory) k s e)
  where
    plain : (bw t c w d : ℕ) → bw + w ≤ d → t + c ≤ w → bw + t + c ≤ d
    plain bw t c w d h g = omega (arith, h, g)

-- the kinds and widths
pub register_shape_at : (net : Net) (n : ℕ) (register : NetRegister) → slice_get net.registers n ≡ Some register → slice_get (register_shapes net) n ≡ Some (register_shape net register)
register_shape_at net n register e =
    slice_get-map (λ (r : NetRegister). shape_or_none (slice_get net.leaves r.leaf)) net.registers n ∙ ap (option_map (λ (r : NetRegister). shape_or_none (slice_get net.leaves r.leaf))) e

pub capture_shape_at : (net : Net) (n : ℕ) (c : Capture) → slice_get (captures net) n ≡ Some c → slice_get (captured_shapes net) n ≡ Some (capture_shape net c)
capture_shape_at net n c e =
    slice_get-map (λ (d : Capture). shape_or_none (slice_get net.leaves d.leaf)) (captures net) n ∙ ap (option_map (λ (d : Capture). shape_or_none (slice_get net.leaves d.leaf))) e

pub word_below : (net : Net) (sink : Sink) (i : ℕ) → HasWord net sink i → i < state_words net
word_below net (A_watched x) i has = elim has [ ]
word_below net (A_register n) i (of_register register there is) = let p = register_part net n (register_shape net register) (register_shape_at net n register there) in let q = is.1 in omega (arith, p, q)
word_below net (A_memory m) i (of_elements memory there from below) = let p = memory_part net m memory there in omega (arith, p, below)
word_below net (A_memory m) i (of_capture n c there number is) = let p = captured_part net n (capture_shape net c) (capture_shape_at net n c there) in let q = is.1 in omega (arith, p, q)
