-- Types that are words.
use Prim.Native.String.{String}
use Rattle.std.proofs.Common.{◌≡◌, ℕ, ◌+◌, Bool, true, false, List, [], ◌∷◌, take, slice_get, Option, Some, refl, codes, bytes_eq}
use Rattle.std.specs.Prelude.{Result, Ok, Err, IfOk}
use Rattle.std.proofs.lemmas.Slice.Eq.{bytes_eq-Decides}
use Rattle.place_text.specs.Places.{place}
use Rattle.bit_words.specs.declared.value.Kind.{Kind}
use Rattle.bit_words.specs.declared.value.Kind.TheVariants as sign
use Rattle.fir_lexer.specs.declared.token.TokenKind.TheVariants as kind
use Rattle.fir_layout.specs.declared.laid.Laid.{Laid}
use Rattle.fir_layout.specs.Pieces.{Piece, A_token, piece_of, pieces_of}
use Rattle.fir_types.specs.declared.fir_type.Shape.{Shape}
use Rattle.fir_types.specs.declared.fir_type.Shape.TheVariants as shape
use Rattle.fir_types.specs.declared.fir_type.FirType.{FirType}
use Rattle.fir_tree.specs.declared.fault.ParseFault.{ParseFault}
use Rattle.fir_grammar.specs.Grammar.{Terminal, The_word, Takes, A, Base_type, Width, an_unsigned, a_signed, a_clock, a_reset, a_bundle, start_of}
use Rattle.fir_grammar.specs.Faults.{Levels, levels, is_deep}
use Rattle.fir_grammar.specs.Reading.{IsRefused}
use Rattle.fir_grammar.proofs.Cases.{choose, starts_word}
use Rattle.token_reader.specs.Standing.{StandsIn, BeginsType}
use Rattle.token_reader.specs.Parts.{IsTaken, StartsWith}
use Rattle.fir_expr.specs.Parts.{GoesInto, HasPassed, kind_name}
use Rattle.fir_expr.specs.TypeParts.{IsBareAt, shape_of}
use Rattle.token_reader.proofs.Composition.{enters_by_piece, refused_case, refused_behind, piece_at, one_at}
use Rattle.fir_expr.proofs.Passing.{passed_then, passed_case, passed_placed, begins_texts}

-- what stands at a place where a terminal's piece stands
pub starts_here : (s : Terminal) (text : List ℕ) (list : List Laid) (i : ℕ) (l : Laid) → StartsWith s text list i → slice_get list i ≡ Some l → Takes s (piece_of text l)
starts_here s text list i l w h = let same : l ≡ w.part = one_at list i l w.part h w.here in rw same w.takes

word_flat : (at : Levels) (word : List ℕ) (p : Piece) → Takes (The_word word) p → is_deep at p ≡ false
word_flat at word (A_token kind.Word bytes) t = refl
word_flat at word _ t = absurd t

pub word_taken : (word text : List ℕ) (list : List Laid) (i : ℕ) (l : Laid) → StartsWith (The_word word) text list i → slice_get list i ≡ Some l → IsTaken (The_word word) text list i l
word_taken word text list i l w h = record {
  here = h;
  takes = starts_here (The_word word) text list i l w h;
  flat = word_flat (levels (take i (pieces_of text list))) word (piece_of text l) (starts_here (The_word word) text list i l w h);
}

-- which case a word begins

no_text : (xs ys : List ℕ) (b : Bool) → ¬ (xs ≡ ys) → bytes_eq xs ys ≡ b → bytes_eq xs ys ≡ false
no_text xs ys true none e = absurd (none ((bytes_eq-Decides xs ys).0 e))
no_text xs ys false none e = e

no_word_first : (word : String) (p : Piece) (ps : List Piece) → ¬ (Takes (The_word (codes word)) p) → starts_word word (p ∷ ps) ≡ false
no_word_first word (A_token kind.Word bytes) ps none = no_text bytes (codes word) (bytes_eq bytes (codes word)) none refl
no_word_first word _ ps none = refl

unsigned_chosen : (p : Piece) (ps : List Piece) → Takes (The_word (codes "UInt")) p → choose Base_type (p ∷ ps) ≡ Some (_, an_unsigned)
unsigned_chosen (A_token kind.Word bytes) ps same = rw same refl
unsigned_chosen _ ps none = absurd none

signed_chosen : (p : Piece) (ps : List Piece) → Takes (The_word (codes "SInt")) p → choose Base_type (p ∷ ps) ≡ Some (_, a_signed)
signed_chosen (A_token kind.Word bytes) ps same = rw same refl
signed_chosen _ ps none = absurd none

clock_chosen : (p : Piece) (ps : List Piece) → Takes (The_word (codes "Clock")) p → choose Base_type (p ∷ ps) ≡ Some (_, a_clock)
clock_chosen (A_token kind.Word bytes) ps same = rw same refl
clock_chosen _ ps none = absurd none

reset_chosen : (p : Piece) (ps : List Piece) → Takes (The_word (codes "Reset")) p → choose Base_type (p ∷ ps) ≡ Some (_, a_reset)
reset_chosen (A_token kind.Word bytes) ps same = rw same refl
reset_chosen _ ps none = absurd none

-- no type that is a word stands there
pub into_bundle : (text : List ℕ) (list : List Laid) (i : ℕ) (l : Laid) → slice_get list i ≡ Some l → ¬ (Takes (The_word (codes "UInt")) (piece_of text l)) → ¬ (Takes (The_word (codes "SInt")) (piece_of text l))
    → ¬ (Takes (The_word (codes "Clock")) (piece_of text l)) → ¬ (Takes (The_word (codes "Reset")) (piece_of text l)) → GoesInto a_bundle text list i
into_bundle text list i l h u s c r = record {
  into = (enters_by_piece (pieces_of text list) i a_bundle (piece_of text l) (piece_at text list i l h)
      (λ ps. rw (no_word_first "UInt" (piece_of text l) ps u, no_word_first "SInt" (piece_of text l) ps s, no_word_first "Clock" (piece_of text l) ps c, no_word_first "Reset" (piece_of text l) ps r) refl)).into;
}

-- `UInt` and `SInt` with a width or without

module _ {text : List ℕ} {list : List Laid} {i brackets : ℕ} {l : Laid} (s : StandsIn (pieces_of text list) i brackets) where
  pub integer_read : {major : ℕ} (sort : Kind) (names : List (List ℕ)) {width : Option ℕ} {j : ℕ} → IsTaken (The_word (kind_name sort)) text list i l → HasPassed major (A Width ∷ []) text list (i + 1) names (width, tt) j names
      → HasPassed major (A Base_type ∷ []) text list i names (record { place = place text (start_of l); shape = shape_of sort width }, tt) j names
  integer_read sign.Unsigned names t w = passed_case an_unsigned (enters_by_piece (pieces_of text list) i an_unsigned (piece_of text l) (piece_at text list i l t.here) (λ ps. unsigned_chosen (piece_of text l) ps t.takes))
      (passed_then (passed_placed names tt s t) w)
  integer_read sign.Signed names t w = passed_case a_signed (enters_by_piece (pieces_of text list) i a_signed (piece_of text l) (piece_at text list i l t.here) (λ ps. signed_chosen (piece_of text l) ps t.takes))
      (passed_then (passed_placed names tt s t) w)

  pub integer_refused : (sort : Kind) {fault : ParseFault} → IsTaken (The_word (kind_name sort)) text list i l → IsRefused (A Width ∷ []) text list (i + 1) fault → IsRefused (A Base_type ∷ []) text list i fault
  integer_refused sign.Unsigned t r = refused_case an_unsigned (enters_by_piece (pieces_of text list) i an_unsigned (piece_of text l) (piece_at text list i l t.here) (λ ps. unsigned_chosen (piece_of text l) ps t.takes))
      (refused_behind (passed_placed {major = 3} [] tt s t).read r)
  integer_refused sign.Signed t r = refused_case a_signed (enters_by_piece (pieces_of text list) i a_signed (piece_of text l) (piece_at text list i l t.here) (λ ps. signed_chosen (piece_of text l) ps t.takes))
      (refused_behind (passed_placed {major = 3} [] tt s t).read r)

  pub bare_read : {major : ℕ} (sort : Shape) (names : List (List ℕ)) → IsBareAt sort text list i → slice_get list i ≡ Some l
      → HasPassed major (A Base_type ∷ []) text list i names (record { place = place text (start_of l); shape = sort }, tt) (i + 1) names
  bare_read shape.Clock names w h =
      let t = word_taken (codes "Clock") text list i l w h in
      passed_case a_clock (enters_by_piece (pieces_of text list) i a_clock (piece_of text l) (piece_at text list i l h) (λ ps. clock_chosen (piece_of text l) ps t.takes)) (passed_placed names tt s t)
  bare_read shape.Reset names w h =
      let t = word_taken (codes "Reset") text list i l w h in
      passed_case a_reset (enters_by_piece (pieces_of text list) i a_reset (piece_of text l) (piece_at text list i l h) (λ ps. reset_chosen (piece_of text l) ps t.takes)) (passed_placed names tt s t)
  bare_read _ names w h = absurd w

pub word_begins : (word : List ℕ) {text : List ℕ} {list : List Laid} {i brackets : ℕ} {l : Laid} → BeginsType (pieces_of text list) i brackets → IsTaken (The_word word) text list i l → BeginsType (pieces_of text list) (i + 1) brackets
word_begins word b t = begins_texts (The_word word) tt b.stands t

pub bare_begins : (sort : Shape) (text : List ℕ) (list : List Laid) {i brackets : ℕ} {l : Laid} → BeginsType (pieces_of text list) i brackets → IsBareAt sort text list i → slice_get list i ≡ Some l
    → BeginsType (pieces_of text list) (i + 1) brackets
bare_begins shape.Clock text list b w h = word_begins (codes "Clock") b (word_taken (codes "Clock") text list _ _ w h)
bare_begins shape.Reset text list b w h = word_begins (codes "Reset") b (word_taken (codes "Reset") text list _ _ w h)
bare_begins _ text list b w h = absurd w

-- a type may begin where one began before
pub begins_so : {pieces : List Piece} {i brackets : ℕ} (r : Result (FirType × ℕ) ParseFault) → BeginsType pieces i brackets → IfOk r (λ x. (n : ℕ) → BeginsType pieces i n → BeginsType pieces x.1 n)
    → IfOk r (λ x. BeginsType pieces x.1 brackets)
begins_so {pieces} {i} {brackets} (Ok x) b h = h brackets b
begins_so (Err fault) b h = tt
