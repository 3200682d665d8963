-- The readers of types, case by case.
use Rattle.std.proofs.Common.{◌≡◌, ℕ, ◌+◌, List, [], ◌∷◌, slice_get, Some, None, refl, arith}
use Rattle.std.proofs.lemmas.Option.{slice_get_within}
use Rattle.place_text.specs.declared.place.Place.{Place}
use Rattle.fir_layout.specs.declared.laid.Laid.{Laid}
use Rattle.fir_layout.specs.Pieces.{piece_of, pieces_of}
use Rattle.fir_tree.specs.declared.fault.ParseFault.{ParseFault}
use Rattle.fir_grammar.specs.Grammar.{The_mark, A_number, Takes, Nothing, Its_magnitude, Is, A, Width, a_width, no_width}
use Rattle.fir_grammar.specs.Reading.{IsRefused}
use Rattle.token_reader.specs.Standing.{StandsIn, BeginsType}
use Rattle.token_reader.specs.Parts.{IsTaken, IsNotTaken, IsNumberAt}
use Rattle.fir_expr.specs.Parts.{HasPassed}
use Rattle.token_reader.proofs.Composition.{read_nothing, refused_first, refused_behind, refused_case}
use Rattle.token_reader.proofs.Depth.{whole_stands, whole_none}
use Rattle.fir_expr.proofs.Passing.{passed_then, passed_case, passed_mark, passed_number, begins_mark, begins_texts}
use Rattle.fir_expr.proofs.Choices.{enters_width, enters_no_width}

pub passed_nothing : {major : ℕ} (text : List ℕ) (list : List Laid) (i brackets : ℕ) (names : List (List ℕ)) (l : Laid) → StandsIn (pieces_of text list) i brackets → slice_get list i ≡ Some l → HasPassed major [] text list i names tt i names
passed_nothing text list i brackets names l s h = record { read = read_nothing text list i names (let w = slice_get_within list i l h in omega (arith, w)); whole = whole_none s; room = omega arith }

-- widths

pub width_none : {major : ℕ} (text : List ℕ) (list : List Laid) (i brackets : ℕ) (names : List (List ℕ)) (l : Laid) → StandsIn (pieces_of text list) i brackets → slice_get list i ≡ Some l → ¬ (Takes (The_mark 60) (piece_of text l))
    → HasPassed major (A Width ∷ []) text list i names (None, tt) i names
width_none text list i brackets names l s h none = passed_case no_width (enters_no_width text list i l h none) (passed_nothing text list i brackets names l s h)

module _ (text : List ℕ) (list : List Laid) (i brackets : ℕ) (l : Laid) (s : StandsIn (pieces_of text list) i brackets) (mark : IsTaken (The_mark 60) text list i l) where
  opened : (major : ℕ) (names : List (List ℕ)) → HasPassed major (Is Nothing (The_mark 60) ∷ []) text list i names tt (i + 1) names
  opened major names = passed_mark 60 names s (λ at. refl) mark

  pub width_no_number : {fault : ParseFault} → IsNotTaken A_number text list (i + 1) fault → IsRefused (A Width ∷ []) text list i fault
  width_no_number refused = refused_case a_width (enters_width text list i l mark.here mark.takes) (refused_behind (opened 3 []).read (refused_first (Is Nothing (The_mark 62) ∷ []) (refused.refused Its_magnitude)))

  module _ (at : Place) (n : ℕ) (number : IsNumberAt text list (i + 1) at n) where
    opened_number : (major : ℕ) (names : List (List ℕ)) → HasPassed major (Is Nothing (The_mark 60) ∷ Is Its_magnitude A_number ∷ []) text list i names (n, tt) (i + 1 + 1) names
    opened_number major names = passed_then (opened major names) (passed_number names (whole_stands (opened major names).whole s) number)

    pub width_not_closed : {fault : ParseFault} → IsNotTaken (The_mark 62) text list (i + 1 + 1) fault → IsRefused (A Width ∷ []) text list i fault
    width_not_closed refused = refused_case a_width (enters_width text list i l mark.here mark.takes) (refused_behind (opened_number 3 []).read (refused.refused Nothing))

    module _ (m : Laid) (close : IsTaken (The_mark 62) text list (i + 1 + 1) m) where
      pub width_read : (major : ℕ) (names : List (List ℕ)) → HasPassed major (A Width ∷ []) text list i names (Some n, tt) (i + 1 + 1 + 1) names
      width_read major names = passed_case a_width (enters_width text list i l mark.here mark.takes)
          (passed_then (opened_number major names) (passed_mark 62 names (whole_stands (opened_number major names).whole s) (λ at. refl) close))

      pub width_begins : BeginsType (pieces_of text list) (i + 1 + 1 + 1) brackets
      width_begins = begins_mark 62 (begins_texts A_number tt (whole_stands (opened 3 []).whole s) number.taken) (λ at. refl) close
