-- What publications of a value leave: its own words, and every other word as it was.
use Rattle.std.proofs.Common.{◌≡◌, ◌≢◌, ℕ, zero, suc, ◌+◌, ◌/◌, ◌%◌, ◌^◌, ◌<◌, ◌≤◌, Bool, true, false, List, [], ◌∷◌, length, set, slice_index, nat_lt, if◌then◌else◌, ℤ, refl, sym, subst, ap, ◌∙◌, arith, length-set, get_or-set_same, get_or-set_other}
use Rattle.std.proofs.Math.Nat.{mod-eq_of_lt}
use Rattle.std.proofs.lemmas.Bool.{ltb-false}
use Rattle.bit_words.specs.declared.value.Value.{Value}
use Rattle.phase_core.specs.declared.model.Publication.{Publication}
use Rattle.phase_core.specs.Script.{published}
use Rattle.prim_ops.specs.Values.{fitted}
use Rattle.ground_net.specs.Shapes.{Shape}
use Rattle.ground_net.specs.Words.{words_of_value, kept, word_count}
use Rattle.ground_net.proofs.Placing.{kept_length}
use Rattle.flat_code.specs.Meaning.{stored}
use Rattle.partition_code.proofs.Lists.{each_none, each_cons}
use Rattle.partition_code.proofs.Publishing.{Silent}
use Rattle.partition_code.proofs.Placed.{Holds, one_part}

first_kept : (words : List ℕ) (at x y : ℕ) → at + 2 ≤ length words → slice_index (set (set words at x) (at + 1) y) (at + 0) ≡ x
first_kept words at x y room =
    let z : at + 0 ≡ at = omega arith in
    ap (slice_index (set (set words at x) (at + 1) y)) z
    ∙ (get_or-set_other (set words at x) (at + 1) at y 0 (λ e. omega (arith, e)) ∙ get_or-set_same words at x 0 (omega (arith, room)))

second_kept : (words : List ℕ) (at x y : ℕ) → at + 2 ≤ length words → slice_index (set (set words at x) (at + 1) y) (at + 1) ≡ y
second_kept words at x y room = let l = length-set words at x in get_or-set_same (set words at x) (at + 1) y 0 (omega (arith, room, l))

lone_kept : (words : List ℕ) (at x y : ℕ) → at + 1 ≤ length words → x ≡ y → slice_index (set words at x) (at + 0) ≡ y
lone_kept words at x y room e = let z : at + 0 ≡ at = omega arith in ap (slice_index (set words at x)) z ∙ (get_or-set_same words at x 0 (omega (arith, room)) ∙ e)

-- a value that is stored stands there
value_stored : (at : ℕ) (v : Value) (words : List ℕ) → at + length (words_of_value v) ≤ length words → Holds (published (stored at v) words) at (words_of_value v)
value_stored at v words = by_test (nat_lt 64 v.width) refl
  where
    by_test : (b : Bool) → nat_lt 64 v.width ≡ b → at + length (if b then v.bits % 2 ^ 64 ∷ v.bits / 2 ^ 64 ∷ [] else v.bits ∷ []) ≤ length words
        → Holds (published (if b then record { word = at; value = v.bits % 2 ^ 64 } ∷ record { word = at + 1; value = v.bits / 2 ^ 64 } ∷ [] else record { word = at; value = v.bits % 2 ^ 64 } ∷ []) words)
        at (if b then v.bits % 2 ^ 64 ∷ v.bits / 2 ^ 64 ∷ [] else v.bits ∷ [])
    by_test true e room zero lt = first_kept words at (v.bits % 2 ^ 64) (v.bits / 2 ^ 64) room
    by_test true e room (suc zero) lt = second_kept words at (v.bits % 2 ^ 64) (v.bits / 2 ^ 64) room
    by_test true e room (suc (suc j)) lt = absurd (omega (arith, lt))
    by_test false e room zero lt = lone_kept words at (v.bits % 2 ^ 64) v.bits room (mod-eq_of_lt (one_part v.bits v.width v.within (ltb-false 64 v.width e)))
    by_test false e room (suc j) lt = absurd (omega (arith, lt))

-- and nothing else is told
value_silent : (at : ℕ) (v : Value) (i : ℕ) → ((j : ℕ) → j < length (words_of_value v) → at + j ≢ i) → Silent i (stored at v)
value_silent at v i = by_test (nat_lt 64 v.width)
  where
    here : at + 0 ≢ i → at ≢ i
    here h e = let z : at + 0 ≡ at = omega arith in h (z ∙ e)

    by_test : (b : Bool) → ((j : ℕ) → j < length (if b then v.bits % 2 ^ 64 ∷ v.bits / 2 ^ 64 ∷ [] else v.bits ∷ []) → at + j ≢ i)
        → Silent i (if b then record { word = at; value = v.bits % 2 ^ 64 } ∷ record { word = at + 1; value = v.bits / 2 ^ 64 } ∷ [] else record { word = at; value = v.bits % 2 ^ 64 } ∷ [])
    by_test true h = each_cons (λ (p : Publication). p.word ≢ i) (record { word = at; value = v.bits % 2 ^ 64 }) (record { word = at + 1; value = v.bits / 2 ^ 64 } ∷ []) (here (h 0 (omega arith)))
        (each_cons (λ (p : Publication). p.word ≢ i) (record { word = at + 1; value = v.bits / 2 ^ 64 }) [] (h 1 (omega arith)) (each_none (λ (p : Publication). p.word ≢ i)))
    by_test false h = each_cons (λ (p : Publication). p.word ≢ i) (record { word = at; value = v.bits % 2 ^ 64 }) [] (here (h 0 (omega arith))) (each_none (λ (p : Publication). p.word ≢ i))

-- the same of an integer that is fitted
pub kept_stored : (at : ℕ) (t : Shape) (n : ℤ) (words : List ℕ) → at + word_count t ≤ length words → Holds (published (stored at (fitted t.kind t.width n)) words) at (kept t n)
kept_stored at t n words room = value_stored at (fitted t.kind t.width n) words (subst (λ c. at + c ≤ length words) (sym (kept_length t n)) room)

pub kept_silent : (at : ℕ) (t : Shape) (n : ℤ) (i : ℕ) → ((j : ℕ) → j < word_count t → at + j ≢ i) → Silent i (stored at (fitted t.kind t.width n))
kept_silent at t n i h = value_silent at (fitted t.kind t.width n) i (λ j lt. h j (subst (λ c. j < c) (kept_length t n) lt))

pub silent_where : (i : ℕ) (b : Bool) (ps : List Publication) → (b ≡ true → Silent i ps) → Silent i (if b then ps else [])
silent_where i true ps h = h refl
silent_where i false ps h = each_none (λ (p : Publication). p.word ≢ i)
