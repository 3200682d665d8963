-- What the captured reads of a memory leave: the words of what they show next, and no others.
use Rattle.std.proofs.Common.{◌≡◌, ◌≢◌, ℕ, ◌+◌, ◌<◌, ◌≤◌, ◌==◌, List, [], take, sum_by, length, slice_get, slice_index, if◌then◌else◌, Some, sym, subst, ap, ◌∙◌, arith}
use Rattle.std.proofs.lemmas.Bool.{eq-eqb}
use Rattle.phase_core.specs.declared.model.Publication.{Publication}
use Rattle.phase_core.specs.Script.{published}
use Rattle.prim_ops.specs.Values.{fitted}
use Rattle.ground_net.specs.declared.net.Net.{Net}
use Rattle.ground_net.specs.Grounds.{Instant}
use Rattle.ground_net.specs.Cones.{numbered}
use Rattle.ground_net.specs.Cycles.{NetState, Capture, captures, next}
use Rattle.ground_net.specs.Nets.{register_shapes, captured_shapes}
use Rattle.ground_net.specs.Words.{kept, word_count, count_words, memory_words, captured_word, state_words}
use Rattle.ground_net.proofs.Placing.{kept_length, numbered_is}
use Rattle.flat_code.specs.Meaning.{stored}
use Rattle.partition_code.specs.Effects.{capture_shape, capture_told, captures_told}
use Rattle.partition_code.proofs.Parts.{capture_shape_at, captured_part}
use Rattle.partition_code.proofs.Lists.{each_flat, from_numbered}
use Rattle.partition_code.proofs.Publishing.{Silent, only_one}
use Rattle.partition_code.proofs.Placed.{Holds}
use Rattle.partition_code.proofs.Left.{kept_stored, kept_silent, silent_where}
use Rattle.partition_code.proofs.Writes.{leaves_apart}

module _ (net : Net) (st : NetState) (instant : Instant) (m : ℕ) where
  -- a captured read is told of where its words are not this one
  one_silent : (i j : ℕ) (both : ℕ × Capture) → slice_get (numbered (captures net)) j ≡ Some both
      → ((x : ℕ) → slice_get (captures net) j ≡ Some both.1 → x < word_count (capture_shape net both.1) → captured_word net j + x ≢ i) → Silent i (capture_told net st instant m both)
  one_silent i j both e h =
      let from = from_numbered 0 (captures net) j both e in
      let z : 0 + j ≡ j = omega arith in
      let s = capture_shape net both.1 in
      let n = (next net st instant).captured both.0 in
      silent_where i (both.1.number == m) (stored (captured_word net both.0) (fitted s.kind s.width n))
      (λ yes. kept_silent (captured_word net both.0) s n i (λ x inside same. h x from.1 inside (ap (λ k. captured_word net k + x) (sym (from.0 ∙ z)) ∙ same)))

  -- words before those of captured reads are not told of
  pub before_captures : (i : ℕ) → i < count_words (register_shapes net) + sum_by memory_words net.memories → Silent i (captures_told net st instant m)
  before_captures i lt = each_flat (λ (p : Publication). p.word ≢ i) (capture_told net st instant m) (numbered (captures net)) (λ j both e.
      one_silent i j both e (λ x at inside same. early (count_words (register_shapes net)) (sum_by memory_words net.memories) (count_words (take j (captured_shapes net))) x i lt same))
    where
      early : (r m t x i : ℕ) → i < r + m → (r + (m + t)) + x ≡ i → ⊥
      early r m t x i lt e = omega (arith, lt, e)

  -- a captured read of the memory leaves its words
  pub capture_left : (n : ℕ) (c : Capture) (words : List ℕ) → length words ≡ state_words net → slice_get (captures net) n ≡ Some c → c.number ≡ m
      → Holds (published (captures_told net st instant m) words) (captured_word net n) (kept (capture_shape net c) ((next net st instant).captured n))
  capture_left n c words counted e is j inside =
      let s = capture_shape net c in
      let at = capture_shape_at net n c e in
      let v = (next net st instant).captured n in
      let fits : j < word_count s = subst (λ k. j < k) (kept_length s v) inside in
      let room : captured_word net n + word_count s ≤ length words = subst (λ l. captured_word net n + word_count s ≤ l) (sym counted) (captured_part net n s at) in
      only_one (capture_told net st instant m) (captured_word net n + j) (numbered (captures net)) n (n, c) (numbered_is (captures net) n c e)
      (λ k both f other. one_silent (captured_word net n + j) k both f (λ x there within same.
      other (leaves_apart (captured_shapes net) k n (capture_shape net both.1) s x j (capture_shape_at net k both.1 there) at within fits
      (flat (count_words (register_shapes net)) (sum_by memory_words net.memories) (count_words (take k (captured_shapes net))) (count_words (take n (captured_shapes net))) x j same))))
      words
      ∙ (ap (λ b. slice_index (published (if b then stored (captured_word net n) (fitted s.kind s.width v) else []) words) (captured_word net n + j)) (eq-eqb c.number m is)
      ∙ kept_stored (captured_word net n) s v words room j inside)
    where
      flat : (r m t u x y : ℕ) → (r + (m + t)) + x ≡ (r + (m + u)) + y → t + x ≡ u + y
      flat r m t u x y e = omega (arith, e)
