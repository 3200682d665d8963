-- The readers of literals and parameters, case by case.
use Rattle.std.proofs.Common.{◌≡◌, ℕ, suc, ◌+◌, List, [], ◌∷◌, ◌++◌, slice_get, Some, refl, ◌∙◌, arith}
use Rattle.std.proofs.lemmas.Grind.{common_steps}
use Rattle.place_text.specs.declared.place.Place.{Place}
use Rattle.fir_layout.specs.declared.laid.Laid.{Laid}
use Rattle.fir_layout.specs.Pieces.{piece_of, pieces_of}
use Rattle.fir_tree.specs.declared.fault.ParseFault.{ParseFault}
use Rattle.fir_grammar.specs.Grammar.{A_number, Its_magnitude, A, Numbers, no_more_numbers, one_more_number}
use Rattle.fir_grammar.specs.Reading.{IsRefused}
use Rattle.token_reader.specs.Standing.{StandsIn, IsWhole}
use Rattle.token_reader.specs.Parts.{IsNotTaken, IsNumberAt}
use Rattle.fir_expr.specs.Parts.{HasPassed}
use Rattle.fir_expr.specs.LiteralParts.{AddsNumbers}
use Rattle.token_reader.proofs.Composition.{Enters, enters_by_piece, piece_at, refused_first, refused_behind, refused_case}
use Rattle.token_reader.proofs.Depth.{whole_stands}
use Rattle.fir_expr.proofs.Passing.{passed_then, passed_case, passed_number, whole_texts}
use Rattle.fir_expr.proofs.TypeCases.{passed_nothing}

append_nothing : (xs : List ℕ) → xs ≡ xs ++ []
append_nothing xs = grind (arith, common_steps)

append_one : (xs ys : List ℕ) (n : ℕ) → (xs ++ n ∷ []) ++ ys ≡ xs ++ n ∷ ys
append_one xs ys n = grind (arith, common_steps)

-- numbers

module _ (text : List ℕ) (list : List Laid) (i brackets : ℕ) (s : StandsIn (pieces_of text list) i brackets) where
  pub numbers_none : (l : Laid) (count : ℕ) (old : List ℕ) → slice_get list i ≡ Some l → count ≡ 0 → AddsNumbers text list i count old old i
  numbers_none l count old h none = rw none (record {
    numbers = [];
    added = append_nothing old;
    read = λ major names. passed_case no_more_numbers (enters_by_piece (pieces_of text list) i no_more_numbers (piece_of text l) (piece_at text list i l h) (λ ps. refl))
        (passed_nothing text list i brackets names l s h);
  })

  enters_number : (l : Laid) (n : ℕ) → slice_get list i ≡ Some l → Enters (pieces_of text list) i (one_more_number n)
  enters_number l n h = enters_by_piece (pieces_of text list) i (one_more_number n) (piece_of text l) (piece_at text list i l h) (λ ps. refl)

  pub numbers_no_number : (l : Laid) (count n : ℕ) {fault : ParseFault} → slice_get list i ≡ Some l → count ≡ suc n → IsNotTaken A_number text list i fault → IsRefused (A (Numbers count) ∷ []) text list i fault
  numbers_no_number l count n h more refused = rw more (refused_case (one_more_number n) (enters_number l n h) (refused_first (A (Numbers n) ∷ []) (refused.refused Its_magnitude)))

  module _ (at : Place) (x : ℕ) (number : IsNumberAt text list i at x) where
    pub number_whole : IsWhole (pieces_of text list) i (i + 1)
    number_whole = whole_texts A_number tt s number.taken

    pub number_stands : StandsIn (pieces_of text list) (i + 1) brackets
    number_stands = whole_stands number_whole s

    pub numbers_refused_later : (count n : ℕ) {fault : ParseFault} → count ≡ suc n → IsRefused (A (Numbers n) ∷ []) text list (i + 1) fault → IsRefused (A (Numbers count) ∷ []) text list i fault
    numbers_refused_later count n more refused =
        rw more (refused_case (one_more_number n) (enters_number _ n number.taken.here) (refused_behind (passed_number {major = 3} [] s number).read refused))

    pub numbers_more : (count n : ℕ) (old new : List ℕ) (j : ℕ) → count ≡ suc n → AddsNumbers text list (i + 1) n (old ++ x ∷ []) new j → AddsNumbers text list i count old new j
    numbers_more count n old new j more others = rw more (record {
      numbers = x ∷ others.numbers;
      added = others.added ∙ append_one old others.numbers x;
      read = λ major names. passed_case (one_more_number n) (enters_number _ n number.taken.here) (passed_then (passed_number names s number) (others.read major names));
    })

-- the numbers are all of the list
pub numbers_all : {major : ℕ} {text : List ℕ} {list : List Laid} {i count j : ℕ} {old new : List ℕ} → AddsNumbers text list i count old new j → old ≡ [] → (names : List (List ℕ))
    → HasPassed major (A (Numbers count) ∷ []) text list i names (new, tt) j names
numbers_all {major} adds none names = rw (adds.added, none) (adds.read major names)
