-- Pieces that are taken, and those that aren't.
use Rattle.std.proofs.Common.{rules, ◌≡◌, ℕ, ◌+◌, ◌-◌, ◌<◌, ◌≤◌, Bool, true, false, not, ◌||◌, ◌&&◌, ◌==◌, nat_le, IsTrue, List, length, take, slice_get, Some, refl, ◌∙◌, ap, arith, ⊎_elim, subst}
use Rattle.place_text.specs.declared.place.Place.{Place}
use Rattle.place_text.specs.Places.{place}
use Rattle.bit_words.specs.Numbers.{IsMagnitude, AnswersMagnitude}
use Rattle.bit_words.specs.declared.number.NumberFault.{NumberFault}
use Rattle.bit_words.specs.declared.number.NumberFault.TheVariants.{NotNumber, Over}
use Rattle.std.specs.Prelude.{Err, ◌^◌}
use Rattle.fir_lexer.specs.Tokens.{IsPastRange}
use Rattle.fir_lexer.specs.declared.pieces.PieceKind.TheVariants.{TokenOf}
use Rattle.fir_lexer.specs.declared.token.Token.{Token}
use Rattle.fir_lexer.specs.declared.token.TokenKind.{TokenKind}
use Rattle.std.proofs.lemmas.Bool.{eqb-true, or_cases, le-leb}
use Rattle.std.proofs.lemmas.Bool.Decides.{nat_tests}
use Rattle.fir_layout.specs.declared.laid.Laid.TheVariants.{Item}
use Rattle.token_reader.specs.Standing.{StandsIn}
use Rattle.fir_lexer.specs.declared.token.TokenKind.TheVariants as kind
use Rattle.fir_layout.specs.declared.laid.Laid.{Laid}
use Rattle.fir_layout.specs.Pieces.{Piece, A_token, piece_of, pieces_of, bytes_of}
use Rattle.fir_tree.specs.declared.fault.ParseFault.{ParseFault}
use Rattle.fir_tree.specs.declared.fault.ParseFault.TheVariants.{NoMemory, TooDeep}
use Rattle.fir_grammar.specs.Grammar.{Terminal, The_mark, A_number, Takes, start_of}
use Rattle.fir_grammar.specs.Faults.{most, last_suffixes, Levels, levels, is_deep, IsNamed}
use Rattle.fir_grammar.specs.Reading.{no_memory}
use Rattle.token_reader.specs.Parts.{IsTaken, IsNotTaken, IsNumberAt, IsTokenIn, is_flat, is_opening}
use Rattle.token_reader.proofs.Composition.{refused_piece, refused_deep, one_at}

pub not_taken_memory : (s : Terminal) (text : List ℕ) (list : List Laid) (i : ℕ) → IsNotTaken s text list i NoMemory
not_taken_memory s text list i = record { refused = λ keeps. no_memory }

pub not_taken : (s : Terminal) (text : List ℕ) (list : List Laid) (i : ℕ) (l : Laid) (fault : ParseFault) → slice_get list i ≡ Some l → ¬ (Takes s (piece_of text l))
    → IsNamed (piece_of text l) (place text (start_of l)) fault → IsNotTaken s text list i fault
not_taken s text list i l fault h none named = record { refused = λ keeps. refused_piece keeps s h none named }

pub too_deep : (s : Terminal) (text : List ℕ) (list : List Laid) (i : ℕ) (l : Laid) → slice_get list i ≡ Some l → Takes s (piece_of text l)
    → is_deep (levels (take i (pieces_of text list))) (piece_of text l) ≡ true → IsNotTaken s text list i (TooDeep (place text (start_of l)))
too_deep s text list i l h takes deep = record { refused = λ keeps. refused_deep keeps s h takes deep }

flat_so : (b c u v : Bool) → not (b || c) ≡ true → ((b && u) || (c && v)) ≡ false
flat_so false false u v h = refl
flat_so false true u v h = absurd cc
flat_so true c u v h = absurd cc

flat_mark : (at : Levels) (n : ℕ) (bytes : List ℕ) → is_flat n ≡ true → is_deep at (A_token (kind.Mark n) bytes) ≡ false
flat_mark at n bytes h = flat_so ((n == 40) || ((n == 91) || (n == 123))) ((n == 46) || (n == 91)) (nat_le most (length at.suffixes - 1)) (nat_le most (last_suffixes at.suffixes)) h

flat_mark_piece : (at : Levels) (m : ℕ) (p : Piece) → Takes (The_mark m) p → is_flat m ≡ true → is_deep at p ≡ false
flat_mark_piece at m (A_token (kind.Mark n) bytes) same flat = flat_mark at n bytes (rw same flat)
flat_mark_piece at m _ none flat = absurd none

pub flat_mark_taken : (m : ℕ) (text : List ℕ) (list : List Laid) (i : ℕ) (l : Laid) → slice_get list i ≡ Some l → Takes (The_mark m) (piece_of text l) → IsTrue (is_flat m)
    → IsTaken (The_mark m) text list i l
flat_mark_taken m text list i l h takes flat = record { here = h; takes = takes; flat = flat_mark_piece (levels (take i (pieces_of text list))) m (piece_of text l) takes (search rules) }

-- where the part isn't what is asked for, no part there is
pub none_here : (s : Terminal) (text : List ℕ) (list : List Laid) (i : ℕ) (l : Laid) {b : Bool} → slice_get list i ≡ Some l → (Takes s (piece_of text l) → IsTrue b) → b ≡ false
    → (m : Laid) → slice_get list i ≡ Some m → ¬ (Takes s (piece_of text m))
none_here s text list i l h asked unlike m g takes =
    let same : m ≡ l = one_at list i m l g h in
    let yes = asked (rw same at takes) in cc

-- A `(` or `{` goes too deep exactly where the most brackets are open.
opening_so : (b c u v : Bool) → b ≡ true → c ≡ false → ((b && u) || (c && v)) ≡ u
opening_so true false true v h k = refl
opening_so true false false v h k = refl
opening_so true true u v h k = absurd cc
opening_so false c u v h k = absurd cc

opening_marks : (n : ℕ) → is_opening n ≡ true → (((n == 40) || ((n == 91) || (n == 123))) ≡ true) × (((n == 46) || (n == 91)) ≡ false)
opening_marks n h = ⊎_elim (λ e. (let same : n ≡ 40 = eqb-true n 40 e in rw same (refl, refl))) (λ e. (let same : n ≡ 123 = eqb-true n 123 e in rw same (refl, refl))) (or_cases (n == 40) (n == 123) h)

opening_mark : (at : Levels) (n brackets : ℕ) (bytes : List ℕ) → is_opening n ≡ true → length at.suffixes ≡ brackets + 1 → is_deep at (A_token (kind.Mark n) bytes) ≡ nat_le most brackets
opening_mark at n brackets bytes h counted =
    let less : length at.suffixes - 1 ≡ brackets = omega (arith, counted) in
    let both = opening_marks n h in
    opening_so ((n == 40) || ((n == 91) || (n == 123))) ((n == 46) || (n == 91)) (nat_le most (length at.suffixes - 1)) (nat_le most (last_suffixes at.suffixes)) both.0 both.1
    ∙ ap (nat_le most) less

opening_piece : (at : Levels) (m brackets : ℕ) (p : Piece) → Takes (The_mark m) p → is_opening m ≡ true → length at.suffixes ≡ brackets + 1 → is_deep at p ≡ nat_le most brackets
opening_piece at m brackets (A_token (kind.Mark n) bytes) same h counted = opening_mark at n brackets bytes (rw same h) counted
opening_piece at m brackets _ none h counted = absurd none

few_test : (brackets : ℕ) → brackets < most → nat_le most brackets ≡ false
few_test brackets h = grind (arith, nat_tests)

pub opening_taken : (m brackets : ℕ) (text : List ℕ) (list : List Laid) (i : ℕ) (l : Laid) → StandsIn (pieces_of text list) i brackets → slice_get list i ≡ Some l → Takes (The_mark m) (piece_of text l)
    → IsTrue (is_opening m) → brackets < most → IsTaken (The_mark m) text list i l
opening_taken m brackets text list i l s h takes opening few = record {
  here = h;
  takes = takes;
  flat = opening_piece (levels (take i (pieces_of text list))) m brackets (piece_of text l) takes opening s.counted ∙ few_test brackets few;
}

pub opening_deep : (m brackets : ℕ) (text : List ℕ) (list : List Laid) (i : ℕ) (l : Laid) → StandsIn (pieces_of text list) i brackets → slice_get list i ≡ Some l → Takes (The_mark m) (piece_of text l)
    → IsTrue (is_opening m) → most ≤ brackets → IsNotTaken (The_mark m) text list i (TooDeep (place text (start_of l)))
opening_deep m brackets text list i l s h takes opening many =
    too_deep (The_mark m) text list i l h takes (opening_piece (levels (take i (pieces_of text list))) m brackets (piece_of text l) takes opening s.counted ∙ le-leb most brackets many)

digits_taken : (k : TokenKind) (bytes : List ℕ) (n : ℕ) → k ≡ kind.Digits → IsMagnitude bytes n → Takes A_number (A_token k bytes)
digits_taken k bytes n e m = rw e (n, m)

digits_flat : (at : Levels) (k : TokenKind) (bytes : List ℕ) → k ≡ kind.Digits → is_deep at (A_token k bytes) ≡ false
digits_flat at k bytes e = rw e refl

pub number_here : (text : List ℕ) (list : List Laid) (i : ℕ) (l : Laid) (token : Token) (at : Place) (n : ℕ) → slice_get list i ≡ Some l → l ≡ Item token → token.kind ≡ kind.Digits → IsMagnitude (bytes_of text token) n
    → at ≡ place text (start_of l) → IsNumberAt text list i at n
number_here text list i l token at n h is digits m p = record {
  token = token;
  taken = record {
    here = h ∙ ap (λ (x : Laid). Some x) is;
    takes = digits_taken token.kind (bytes_of text token) n digits m;
    flat = digits_flat (levels (take i (pieces_of text list))) token.kind (bytes_of text token) digits;
  };
  is = m;
  place = p ∙ ap (λ (x : Laid). place text (start_of x)) is;
}

digits_past : (text : List ℕ) (token : Token) (n : ℕ) (k : TokenKind) (bytes : List ℕ) → k ≡ kind.Digits → ¬ (IsPastRange (TokenOf k) bytes) → IsMagnitude bytes n → 2 ^ 128 ≤ n → ⊥
digits_past text token n k bytes e none m over = (rw e at none) (n, m, over)

fault_none : (bytes : List ℕ) (fault : NumberFault) (n : ℕ) → ((m : ℕ) → IsMagnitude bytes m → 2 ^ 128 ≤ m → ⊥) → AnswersMagnitude (IsMagnitude bytes) (Err fault) → ¬ (IsMagnitude bytes n)
fault_none bytes NotNumber n small answer = answer n
fault_none bytes Over n small answer = λ h. small answer.0 answer.1 answer.2

-- digits that have no magnitude in the range are no number
pub no_number : (text bytes : List ℕ) (token : Token) (fault : NumberFault) → IsTokenIn text token → token.kind ≡ kind.Digits → bytes ≡ bytes_of text token → AnswersMagnitude (IsMagnitude bytes) (Err fault)
    → ¬ (Takes A_number (piece_of text (Item token)))
no_number text bytes token fault t e b answer = λ h. (let taken = rw e at h in
    fault_none (bytes_of text token) fault taken.0 (λ m is over. digits_past text token m token.kind (bytes_of text token) e t.in_range is over) (subst (λ (x : List ℕ). AnswersMagnitude (IsMagnitude x) (Err fault)) b answer) taken.1)
