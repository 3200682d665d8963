-- The lengths of vectors.
use Rattle.std.proofs.Common.{◌≡◌, ℕ, ◌+◌, ◌<◌, List, [], ◌∷◌, take, slice_get, Some, refl, sym, subst, ◌∙◌, ap, arith}
use Rattle.std.proofs.Math.Path.{Path}
use Rattle.place_text.specs.declared.place.Place.{Place}
use Rattle.fir_layout.specs.declared.laid.Laid.{Laid}
use Rattle.fir_layout.specs.Pieces.{Piece, piece_of, pieces_of}
use Rattle.fir_types.specs.declared.fir_type.FirType.{FirType}
use Rattle.fir_types.specs.declared.fir_type.Shape.TheVariants as shape
use Rattle.fir_tree.specs.declared.fault.ParseFault.{ParseFault}
use Rattle.fir_grammar.specs.Grammar.{The_mark, A_number, Takes, Nothing, Its_magnitude, Symbol, A, IsCase, Type_of, Base_type, Lengths, mark, number, vectors, a_type, last_length, next_length}
use Rattle.fir_grammar.specs.Faults.{levels, last_suffixes, most}
use Rattle.fir_grammar.specs.Reading.{IsRefused}
use Rattle.token_reader.specs.Standing.{StandsIn}
use Rattle.token_reader.specs.Parts.{IsTaken, IsNotTaken, IsNumberAt}
use Rattle.fir_expr.specs.Parts.{HasPassed}
use Rattle.fir_expr.specs.TypeParts.{HasLengths}
use Rattle.fir_expr.proofs.Bracketed.{stands_indexed, whole_index, suffixes_index}
use Rattle.token_reader.proofs.Composition.{Enters, enters_always, read_then, refused_first, refused_behind, refused_case}
use Rattle.fir_expr.proofs.Passing.{passed_then, passed_case, passed_number, read_mark, room_step}
use Rattle.fir_expr.proofs.Choices.{enters_length, enters_last_length}
use Rattle.fir_expr.proofs.TypeCases.{passed_nothing}

-- one length: opened at i
module _ {text : List ℕ} {list : List Laid} {i brackets : ℕ} {l : Laid} (s : StandsIn (pieces_of text list) i brackets) (few : brackets < most) (t : IsTaken (The_mark 91) text list i l) where
  pub length_no_number : {fault : ParseFault} → IsNotTaken A_number text list (i + 1) fault → IsRefused (mark 91 ∷ number ∷ mark 93 ∷ []) text list i fault
  length_no_number r = refused_behind (read_mark {major = 3} [] t) (refused_first (mark 93 ∷ []) (r.refused Its_magnitude))

  module _ {at : Place} {n : ℕ} (digits : IsNumberAt text list (i + 1) at n) where
    inside : (major : ℕ) (names : List (List ℕ)) → HasPassed major (number ∷ []) text list (i + 1) names (n, tt) (i + 1 + 1) names
    inside major names = passed_number names (stands_indexed t s few) digits

    pub length_not_closed : {fault : ParseFault} → IsNotTaken (The_mark 93) text list (i + 1 + 1) fault → IsRefused (mark 91 ∷ number ∷ mark 93 ∷ []) text list i fault
    length_not_closed r = refused_behind (read_then (read_mark {major = 3} [] t) (inside 3 []).read) (r.refused Nothing)

    module _ {c : Laid} (close : IsTaken (The_mark 93) text list (i + 1 + 1) c) where
      pub length_read : (major : ℕ) (names : List (List ℕ)) → HasPassed major (mark 91 ∷ number ∷ mark 93 ∷ []) text list i names (n, tt) (i + 1 + 1 + 1) names
      length_read major names = record {
        read = read_then (read_then (read_mark names t) (inside major names).read) (read_mark names close);
        whole = whole_index t (inside major names).whole close s;
        room = let first = room_step names list i l t.here in let last = room_step names list (i + 1 + 1) c close.here in let middle = (inside major names).room in omega (arith, first, middle, last);
      }

      pub length_counted : {suffixes : ℕ} → last_suffixes (levels (take i (pieces_of text list))).suffixes ≡ suffixes → last_suffixes (levels (take (i + 1 + 1 + 1) (pieces_of text list))).suffixes ≡ suffixes + 1
      length_counted e = suffixes_index t (inside 3 []).whole close s ∙ ap (λ n. n + 1) e

-- all lengths

pub lengths_none : {text : List ℕ} {list : List Laid} {i brackets : ℕ} {l : Laid} (element : FirType) → StandsIn (pieces_of text list) i brackets → slice_get list i ≡ Some l → ¬ (Takes (The_mark 91) (piece_of text l))
    → HasLengths element text list i element i
lengths_none {text} {list} {i} {brackets} {l} element s h none = record {
  lengths = [];
  passed = λ major names. passed_case last_length (enters_last_length text list i l h none) (passed_nothing text list i brackets names l s h);
  is = refl;
}

module _ {text : List ℕ} {list : List Laid} {i : ℕ} {l : Laid} (h : slice_get list i ≡ Some l) (t : Takes (The_mark 91) (piece_of text l)) where
  pub lengths_refused_first : {fault : ParseFault} → IsRefused (mark 91 ∷ number ∷ mark 93 ∷ []) text list i fault → IsRefused (A Lengths ∷ []) text list i fault
  lengths_refused_first r = refused_case next_length (enters_length text list i l h t) (refused_first (A Lengths ∷ []) r)

  module _ {n j : ℕ} (first : (major : ℕ) (names : List (List ℕ)) → HasPassed major (mark 91 ∷ number ∷ mark 93 ∷ []) text list i names (n, tt) j names) where
    pub lengths_refused : {fault : ParseFault} → IsRefused (A Lengths ∷ []) text list j fault → IsRefused (A Lengths ∷ []) text list i fault
    lengths_refused r = refused_case next_length (enters_length text list i l h t) (refused_behind (first 3 []).read r)

    pub lengths_more : {element boxed typ : FirType} {k : ℕ} → ◌≡◌ {A = FirType} boxed element → HasLengths (record { place = element.place; shape = shape.Vector boxed n }) text list j typ k → HasLengths element text list i typ k
    lengths_more {element} {boxed} same others = record {
      lengths = n ∷ others.lengths;
      passed = λ major names. passed_case next_length (enters_length text list i l h t) (passed_then (first major names) (others.passed major names));
      is = others.is ∙ ap (λ (b : FirType). vectors (record { place = element.place; shape = shape.Vector b n }) others.lengths) same;
    }

-- a type of its base and its lengths

type_case : (other : List Symbol) → IsCase Type_of other → Path (List Symbol) other (A Base_type ∷ A Lengths ∷ [])
type_case _ a_type = refl

enters_type : (pieces : List Piece) (i : ℕ) → Enters pieces i a_type
enters_type pieces i = enters_always pieces i a_type type_case

pub type_no_base : {text : List ℕ} {list : List Laid} {i : ℕ} {fault : ParseFault} → IsRefused (A Base_type ∷ []) text list i fault → IsRefused (A Type_of ∷ []) text list i fault
type_no_base {text} {list} {i} r = refused_case a_type (enters_type (pieces_of text list) i) (refused_first (A Lengths ∷ []) r)

module _ {major : ℕ} {text : List ℕ} {list : List Laid} {i j : ℕ} {names after : List (List ℕ)} {base : FirType} (h : HasPassed major (A Base_type ∷ []) text list i names (base, tt) j after) where
  pub type_no_lengths : {fault : ParseFault} → IsRefused (A Lengths ∷ []) text list j fault → IsRefused (A Type_of ∷ []) text list i fault
  type_no_lengths r = refused_case a_type (enters_type (pieces_of text list) i) (refused_behind h.read r)

  pub type_read : {typ : FirType} {k : ℕ} → HasLengths base text list j typ k → HasPassed major (A Type_of ∷ []) text list i names (typ, tt) k after
  type_read {typ} {k} ls = subst (λ (t : FirType). HasPassed major (A Type_of ∷ []) text list i names (t, tt) k after) (sym ls.is) (passed_case a_type (enters_type (pieces_of text list) i) (passed_then h (ls.passed major after)))
