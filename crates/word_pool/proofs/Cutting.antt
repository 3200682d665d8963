-- One more frame.
use Rattle.std.proofs.Common.{◌≡◌, ℕ, ◌+◌, ◌<◌, List, [], ◌∷◌, ◌++◌, length, take, drop, get_or, map, sym, ap, ap₂, ◌∙◌, arith}
use Rattle.std.specs.Prelude.{sum}
use Rattle.std.specs.List.{flat_map}
use Rattle.std.proofs.lemmas.List.{take_more, map-append, flat_map_more, take-append-drop, take-take, drop-take, drop-drop}
use Rattle.std.proofs.lemmas.List.Sums.{sum_by_more}

module _ {F : Type 0} (now : F → List ℕ) (frames more : List F) (frame : F) (lengths words rest behind : List ℕ) (i n : ℕ) (lt : i < length lengths) (long : n ≡ get_or lengths i 0) (pushed : more ≡ frames ++ frame ∷ []) where
  sums : sum (take (i + 1) lengths) ≡ sum (take i lengths) + n
  sums = sum_by_more (λ x. x) lengths i 0 lt ∙ ap (λ k. sum (take i lengths) + k) (sym long)

  pub lengths_more : map (λ f. length (now f)) frames ≡ take i lengths → length (now frame) ≡ n → map (λ f. length (now f)) more ≡ take (i + 1) lengths
  lengths_more before its =
      ap (map (λ f. length (now f))) pushed ∙ map-append (λ f. length (now f)) frames (frame ∷ []) ∙ ap₂ (λ ns k. ns ++ k ∷ []) before (its ∙ long) ∙ sym (take_more lengths i 0 lt)

  joined : (s : ℕ) → take s words ++ take n (drop s words) ≡ take (s + n) words
  joined s =
      let front : take s (take (s + n) words) ≡ take s words = take-take s (s + n) words (omega arith) in
      let back : drop s (take (s + n) words) ≡ take n (drop s words) = drop-take s n words in
      sym (sym (take-append-drop s (take (s + n) words)) ∙ ap₂ (λ xs ys. xs ++ ys) front back)

  pub words_more : flat_map now frames ≡ take (sum (take i lengths)) words → rest ≡ drop (sum (take i lengths)) words → now frame ≡ take n rest → flat_map now more ≡ take (sum (take (i + 1) lengths)) words
  words_more before left front =
      ap (flat_map now) pushed ∙ sym (flat_map_more now [] frames frame) ∙ ap₂ (λ xs ys. xs ++ ys) before (front ∙ ap (take n) left) ∙ joined (sum (take i lengths)) ∙ ap (λ k. take k words) (sym sums)

  pub rest_more : rest ≡ drop (sum (take i lengths)) words → behind ≡ drop n rest → behind ≡ drop (sum (take (i + 1) lengths)) words
  rest_more left back = back ∙ ap (drop n) left ∙ drop-drop n (sum (take i lengths)) words ∙ ap (λ k. drop k words) (sym sums)
