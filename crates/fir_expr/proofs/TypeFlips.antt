-- Fields that are turned round, and those that aren't.
use Rattle.std.proofs.Common.{◌≡◌, ℕ, ◌+◌, ◌≤◌, Bool, true, false, List, [], ◌∷◌, ◌++◌, slice_get, Some, refl, codes, arith}
use Rattle.std.proofs.Math.Path.{Path}
use Rattle.fir_lexer.specs.declared.token.TokenKind.TheVariants as kind
use Rattle.fir_layout.specs.declared.laid.Laid.{Laid}
use Rattle.fir_layout.specs.Pieces.{Piece, A_token, piece_of, pieces_of}
use Rattle.fir_types.specs.declared.fir_type.FirType.{FirType}
use Rattle.fir_types.specs.declared.name.Name.{Name}
use Rattle.fir_tree.specs.declared.fault.ParseFault.{ParseFault}
use Rattle.fir_grammar.specs.Grammar.{The_word, The_mark, A_field, Takes, Nothing, Symbol, A, Field, IsCase, field, plain_field, flipped_field, Front, cut, takes_on, Type_of, colon, word}
use Rattle.fir_grammar.specs.Reading.{IsRefused}
use Rattle.fir_grammar.proofs.ReadingLaws.{chosen_alone, takes_both}
use Rattle.token_reader.specs.Standing.{StandsIn, BeginsType, wanted}
use Rattle.token_reader.specs.Parts.{IsTaken, IsNotTaken, IsNameAt, StartsWith}
use Rattle.fir_expr.specs.Parts.{GoesInto, HasPassed}
use Rattle.fir_expr.specs.TypeParts.{Flips}
use Rattle.token_reader.proofs.Composition.{enters_by_two, enters_only, piece_at, refused_first, refused_behind, refused_case}
use Rattle.token_reader.proofs.Depth.{whole_stands}
use Rattle.fir_expr.proofs.Passing.{passed_then, passed_case, passed_word, passed_name, passed_mark, begins_texts, begins_mark}
use Rattle.fir_expr.proofs.TypeNames.{word_taken}
use Rattle.fir_expr.proofs.Choices.{is_mark_first, no_mark_first}

only_plain : (p : Piece) → ¬ (Takes (The_word (codes "flip")) p) → (other rest : List Symbol) (ps : List Piece) → IsCase Field other → Front (other ++ rest) (p ∷ ps) → Path (List Symbol) other (field ∷ colon ∷ A Type_of ∷ [])
only_plain p none other rest ps plain_field f = refl
only_plain p none other rest ps flipped_field (takes_on t f) = absurd (none t)

-- each field has pieces
some_field : ¬ (IsCase Field [])
some_field case = elim case [ ]

-- a field may begin with a word
word_field : (w : List ℕ) (p : Piece) → Takes (The_word w) p → Takes A_field p
word_field w (A_token kind.Word bytes) t = tt
word_field w _ t = absurd t

module _ (text : List ℕ) (list : List Laid) (i : ℕ) (l : Laid) (h : slice_get list i ≡ Some l) where
  -- no `flip` stands there
  pub into_plain : ¬ (Takes (The_word (codes "flip")) (piece_of text l)) → GoesInto plain_field text list i
  into_plain none = record { into = (enters_only (pieces_of text list) i plain_field (piece_of text l) (piece_at text list i l h) (only_plain (piece_of text l) none) some_field).into }

  module _ (flip : Takes (The_word (codes "flip")) (piece_of text l)) (m : Laid) (g : slice_get list (i + 1) ≡ Some m) where
    pub into_named_flip : Takes (The_mark 58) (piece_of text m) → GoesInto plain_field text list i
    into_named_flip t = record {
      into = (enters_by_two (pieces_of text list) i plain_field (piece_of text l) (piece_of text m) (piece_at text list i l h) (piece_at text list (i + 1) m g)
          (λ rest. takes_on (word_field (codes "flip") (piece_of text l) flip) cut) (λ ps. rw (is_mark_first 58 (piece_of text m) ps t) refl)
          (takes_both (λ rest. takes_on (word_field (codes "flip") (piece_of text l) flip) (takes_on t cut)))).into;
    }

    pub into_flipped : ¬ (Takes (The_mark 58) (piece_of text m)) → GoesInto flipped_field text list i
    into_flipped t = record {
      into = (enters_by_two (pieces_of text list) i flipped_field (piece_of text l) (piece_of text m) (piece_at text list i l h) (piece_at text list (i + 1) m g)
          (λ rest. takes_on flip cut) (λ ps. rw (no_mark_first 58 (piece_of text m) ps t) refl) (chosen_alone refl)).into;
    }

-- a field of what stands before its name and of the rest
module _ (text : List ℕ) (list : List Laid) (i j brackets : ℕ) (s : StandsIn (pieces_of text list) i brackets) where
  flip_passed : {major : ℕ} (names : List (List ℕ)) → StartsWith (The_word (codes "flip")) text list i → HasPassed major (word "flip" ∷ []) text list i names tt (i + 1) names
  flip_passed names w = passed_word names tt s (word_taken (codes "flip") text list i w.part w w.here)

  pub field_stands : (b : Bool) → Flips b text list i j → StandsIn (pieces_of text list) j brackets
  field_stands true f = rw f.2 (whole_stands (flip_passed {major = 3} [] f.1).whole s)
  field_stands false f = rw f.1 s

  pub field_room : (names : List (List ℕ)) (b : Bool) → Flips b text list i j → wanted names list j ≤ wanted names list i
  field_room names true f = rw f.2 (flip_passed {major = 3} names f.1).room
  field_room names false f = rw f.1 (omega arith)

  pub field_onward : (b : Bool) → Flips b text list i j → i ≤ j
  field_onward true f = rw f.2 (omega arith)
  field_onward false f = rw f.1 (omega arith)

  pub field_read : {major : ℕ} (b : Bool) {k : ℕ} {names after : List (List ℕ)} {called : Name} {typ : FirType} → Flips b text list i j
      → HasPassed major (field ∷ colon ∷ A Type_of ∷ []) text list j names (called, (typ, tt)) k after → HasPassed major (A Field ∷ []) text list i names (record { flip = b; name = called; typ = typ }, tt) k after
  field_read true {names} f h = passed_case flipped_field (record { into = f.0.into }) (passed_then (flip_passed names f.1) (rw f.2 at h))
  field_read false f h = passed_case plain_field (record { into = f.0.into }) (rw f.1 at h)

  pub field_fails : (b : Bool) {fault : ParseFault} → Flips b text list i j → IsRefused (field ∷ colon ∷ A Type_of ∷ []) text list j fault → IsRefused (A Field ∷ []) text list i fault
  field_fails true f r = refused_case flipped_field (record { into = f.0.into }) (refused_behind (flip_passed {major = 3} [] f.1).read (rw f.2 at r))
  field_fails false f r = refused_case plain_field (record { into = f.0.into }) (rw f.1 at r)

-- a name, a colon and a type
module _ {text : List ℕ} {list : List Laid} {i brackets : ℕ} (s : StandsIn (pieces_of text list) i brackets) {names after : List (List ℕ)} {called : Name} (t : IsNameAt A_field text list i names called after) where
  called_passed : {major : ℕ} → HasPassed major (field ∷ []) text list i names (called, tt) (i + 1) after
  called_passed = passed_name tt s t

  pub called_no_colon : {fault : ParseFault} → IsNotTaken (The_mark 58) text list (i + 1) fault → IsRefused (field ∷ colon ∷ A Type_of ∷ []) text list i fault
  called_no_colon r = refused_behind (called_passed {major = 3}).read (refused_first (A Type_of ∷ []) (r.refused Nothing))

  module _ {l : Laid} (c : IsTaken (The_mark 58) text list (i + 1) l) where
    called_colon : {major : ℕ} → HasPassed major (field ∷ colon ∷ []) text list i names (called, tt) (i + 1 + 1) after
    called_colon = passed_then called_passed (passed_mark 58 after (begins_texts A_field tt s t.taken).stands (λ at. refl) c)

    pub called_room : wanted after list (i + 1 + 1) ≤ wanted names list i
    called_room = (called_colon {major = 3}).room

    pub called_begins : BeginsType (pieces_of text list) (i + 1 + 1) brackets
    called_begins = begins_mark 58 (begins_texts A_field tt s t.taken) (λ at. refl) c

    pub called_no_type : {fault : ParseFault} → IsRefused (A Type_of ∷ []) text list (i + 1 + 1) fault → IsRefused (field ∷ colon ∷ A Type_of ∷ []) text list i fault
    called_no_type r = refused_behind (called_colon {major = 3}).read r

    pub called_read : {major : ℕ} {typ : FirType} {k : ℕ} {last : List (List ℕ)} → HasPassed major (A Type_of ∷ []) text list (i + 1 + 1) after (typ, tt) k last
        → HasPassed major (field ∷ colon ∷ A Type_of ∷ []) text list i names (called, (typ, tt)) k last
    called_read h = passed_then called_colon h
