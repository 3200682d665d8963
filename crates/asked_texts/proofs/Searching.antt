-- Line after line, up to the line `%stimulus`.
use Rattle.std.proofs.Common.{◌≡◌, ◌≢◌, ℕ, zero, suc, ◌+◌, ◌-◌, ◌<◌, ◌≤◌, List, [], ◌∷◌, ⊎_elim, inl, inr, length, drop, take, refl, sym, ap, ◌∙◌, subst, arith, lt_of_not-le}
use Rattle.std.specs.Prelude.{Some, slice_get}
use native.Mathlib.Decide.{dec_le}
use Rattle.std.proofs.lemmas.Grind.{common_steps}
use Rattle.asked_texts.specs.Texts.{IsStimulusLine, NoneBefore, HasNone, EndsFirst}

slice_get-drop : (n : ℕ) (l : List ℕ) (k : ℕ) → slice_get (drop n l) k ≡ slice_get l (n + k)
slice_get-drop zero l k = let e : k ≡ 0 + k = omega arith in ap (slice_get l) e
slice_get-drop (suc n) [] k = refl
slice_get-drop (suc n) (x ∷ l) k = let e : suc (n + k) ≡ suc n + k = omega arith in slice_get-drop n l k ∙ ap (slice_get (x ∷ l)) e

-- Where the search stands: at the beginning of a line, with no line `%stimulus` before.
pub record Searched (text : List ℕ) (start : ℕ) : Type 0 where
  pub within : start ≤ length text
  pub begins : 0 < start → slice_get text (start - 1) ≡ Some 10
  pub none : NoneBefore text start

pub searched_from_start : (text : List ℕ) → Searched text 0
searched_from_start text = record { within = omega arith; begins = λ lt. absurd (omega arith); none = λ at after lt. absurd (omega arith) }

-- no line begins at an offset behind the start, unless a line feed stands before it
between : (text : List ℕ) (start at : ℕ) → start < at → (0 < at → slice_get text (at - 1) ≡ Some 10) → slice_get (drop start text) (at - 1 - start) ≡ Some 10
between text start at lt b =
    let e : start + (at - 1 - start) ≡ at - 1 = omega arith in slice_get-drop start text (at - 1 - start) ∙ ap (slice_get text) e ∙ b (omega arith)

pub searched_on : (text : List ℕ) (start n : ℕ) → Searched text start → ((after : List ℕ) → IsStimulusLine (drop start text) after → ⊥) → EndsFirst (drop start text) n → Searched text (start + n)
searched_on text start n s not_here line = record {
  within = let w = line.within in let l : length (drop start text) ≡ length text - start = grind (arith, common_steps) in let i = s.within in omega arith;
  begins = let p = line.some in let e : start + (n - 1) ≡ start + n - 1 = omega arith in λ behind. ap (slice_get text) (sym e) ∙ sym (slice_get-drop start text (n - 1)) ∙ line.feed;
  none = λ at after lt stands. elim (dec_le start at) [
    | yes le ↦ elim (dec_le at start) [
      | yes ge ↦ let e : at ≡ start = omega arith in not_here after (subst (λ k. IsStimulusLine (drop k text) after) e stands.line)
      | no more ↦ let gt = lt_of_not-le more in line.none (at - 1 - start) (omega arith) (between text start at gt stands.begins)
    ]
    | no less ↦ s.none at after (lt_of_not-le less) stands
  ];
}

-- behind the last line feed there is no further line
pub searched_all : (text : List ℕ) (start : ℕ) → Searched text start → ((after : List ℕ) → IsStimulusLine (drop start text) after → ⊥)
    → ((k : ℕ) → slice_get (drop start text) k ≢ Some 10) → HasNone text
searched_all text start s not_here no_feed at after stands = elim (dec_le start at) [
  | yes le ↦ elim (dec_le at start) [
    | yes ge ↦ let e : at ≡ start = omega arith in not_here after (subst (λ k. IsStimulusLine (drop k text) after) e stands.line)
    | no more ↦ no_feed (at - 1 - start) (between text start at (lt_of_not-le more) stands.begins)
  ]
  | no less ↦ s.none at after (lt_of_not-le less) stands
]

-- the end of the text begins no such line
pub searched_to_end : (text : List ℕ) (start : ℕ) → Searched text start → length text ≤ start → HasNone text
searched_to_end text start s end at after stands =
    elim (dec_le start at) [
      | yes le ↦ let e : drop at text ≡ [] = grind (arith, common_steps) in
          let line : IsStimulusLine [] after = subst (λ l. IsStimulusLine l after) e stands.line in
          ⊎_elim (λ a. cc) (λ b. ⊎_elim (λ x. cc) (λ y. let z = y.0 in cc) b) line
      | no less ↦ s.none at after (lt_of_not-le less) stands
    ]

-- the bytes from the start on
pub from_start : (text : List ℕ) (start : ℕ) → take (length text - start) (drop start text) ≡ drop start text
from_start text start = grind (arith, common_steps)
