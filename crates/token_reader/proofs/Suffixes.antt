-- Calls, and the marks that begin suffixes: what is taken, and what goes too deep.
use Rattle.std.proofs.Common.{◌≡◌, ℕ, ◌+◌, ◌-◌, ◌<◌, ◌≤◌, Bool, true, false, ◌||◌, ◌&&◌, not, codes, ◌++◌, ◌==◌, nat_le, IsTrue, List, length, take, slice_get, Some, refl, ◌∙◌, ap, arith, ⊎_elim}
use Rattle.std.proofs.lemmas.Bool.{eqb-true, or_cases, le-leb}
use Rattle.std.proofs.lemmas.Bool.Decides.{nat_tests}
use Rattle.place_text.specs.Places.{place}
use Rattle.fir_lexer.specs.declared.token.TokenKind.TheVariants as kind
use Rattle.fir_layout.specs.declared.laid.Laid.{Laid}
use Rattle.fir_layout.specs.Pieces.{Piece, A_token, piece_of, pieces_of}
use Rattle.fir_tree.specs.declared.fault.ParseFault.TheVariants.{TooDeep}
use Rattle.fir_grammar.specs.Grammar.{The_mark, The_call, Takes, start_of}
use Rattle.fir_grammar.specs.Faults.{most, last_suffixes, Levels, levels, is_deep, is_item}
use Rattle.token_reader.specs.Standing.{StandsIn}
use Rattle.token_reader.specs.Parts.{IsTaken, IsNotTaken, StartsWith, is_suffix_mark}
use Rattle.token_reader.proofs.Composition.{one_at}
use Rattle.token_reader.proofs.Takes.{too_deep}

few : (n : ℕ) → n < most → nat_le most n ≡ false
few n h = grind (arith, nat_tests)

-- a call opens one bracket more

call_piece : (at : Levels) (name : List ℕ) (brackets : ℕ) (p : Piece) → is_item (name ++ codes "(") ≡ false → Takes (The_call name) p → length at.suffixes ≡ brackets + 1 → is_deep at p ≡ nat_le most brackets
call_piece at name brackets (A_token kind.Call bytes) other same counted = ap (λ (b : List ℕ). not (is_item b) && nat_le most (length at.suffixes - 1)) same ∙ rw other refl ∙ ap (nat_le most) (let less : length at.suffixes - 1 ≡ brackets = omega (arith, counted) in less)
call_piece at name brackets _ other none counted = absurd none

pub call_taken : (name : List ℕ) (brackets : ℕ) (text : List ℕ) (list : List Laid) (i : ℕ) (l : Laid) → StandsIn (pieces_of text list) i brackets → slice_get list i ≡ Some l
    → is_item (name ++ codes "(") ≡ false → StartsWith (The_call name) text list i → brackets < most → IsTaken (The_call name) text list i l
call_taken name brackets text list i l s h other starts below =
    let same : l ≡ starts.part = one_at list i l starts.part h starts.here in
    let takes : Takes (The_call name) (piece_of text l) = rw same starts.takes in
    record { here = h; takes = takes; flat = call_piece (levels (take i (pieces_of text list))) name brackets (piece_of text l) other takes s.counted ∙ few brackets below }

pub call_deep : (name : List ℕ) (brackets : ℕ) (text : List ℕ) (list : List Laid) (i : ℕ) (l : Laid) → StandsIn (pieces_of text list) i brackets → slice_get list i ≡ Some l
    → is_item (name ++ codes "(") ≡ false → StartsWith (The_call name) text list i → most ≤ brackets → IsNotTaken (The_call name) text list i (TooDeep (place text (start_of l)))
call_deep name brackets text list i l s h other starts many =
    let same : l ≡ starts.part = one_at list i l starts.part h starts.here in
    let takes : Takes (The_call name) (piece_of text l) = rw same starts.takes in
    too_deep (The_call name) text list i l h takes (call_piece (levels (take i (pieces_of text list))) name brackets (piece_of text l) other takes s.counted ∙ le-leb most brackets many)

-- A `.` counts as a suffix, and a `[` as a suffix and as a bracket.

dot_deep : (at : Levels) (suffixes : ℕ) (bytes : List ℕ) → last_suffixes at.suffixes ≡ suffixes → is_deep at (A_token (kind.Mark 46) bytes) ≡ nat_le most suffixes
dot_deep at suffixes bytes counted = ap (nat_le most) counted

square_deep : (at : Levels) (brackets suffixes : ℕ) (bytes : List ℕ) → length at.suffixes ≡ brackets + 1 → last_suffixes at.suffixes ≡ suffixes
    → is_deep at (A_token (kind.Mark 91) bytes) ≡ (nat_le most brackets || nat_le most suffixes)
square_deep at brackets suffixes bytes counted last =
    let less : length at.suffixes - 1 ≡ brackets = omega (arith, counted) in
    rw (less, last) refl

either : (b c : Bool) → b ≡ false → c ≡ false → (b || c) ≡ false
either b c h k = rw (h, k) refl

left_of : (b c : Bool) → b ≡ true → (b || c) ≡ true
left_of b c h = rw h refl

right_of : (b c : Bool) → c ≡ true → (b || c) ≡ true
right_of true c h = refl
right_of false c h = h

flat_suffix : (at : Levels) (brackets suffixes n : ℕ) (bytes : List ℕ) → is_suffix_mark n ≡ true → length at.suffixes ≡ brackets + 1 → last_suffixes at.suffixes ≡ suffixes
    → suffixes < most → (n ≡ 91 → brackets < most) → is_deep at (A_token (kind.Mark n) bytes) ≡ false
flat_suffix at brackets suffixes n bytes h counted last below inside = ⊎_elim
    (λ e. (let same : n ≡ 46 = eqb-true n 46 e in rw same (dot_deep at suffixes bytes last ∙ few suffixes below)))
    (λ e. (let same : n ≡ 91 = eqb-true n 91 e in
    rw same (square_deep at brackets suffixes bytes counted last ∙ either (nat_le most brackets) (nat_le most suffixes) (few brackets (inside same)) (few suffixes below))))
    (or_cases (n == 46) (n == 91) h)

many_suffixes : (at : Levels) (brackets suffixes n : ℕ) (bytes : List ℕ) → is_suffix_mark n ≡ true → length at.suffixes ≡ brackets + 1 → last_suffixes at.suffixes ≡ suffixes
    → most ≤ suffixes → is_deep at (A_token (kind.Mark n) bytes) ≡ true
many_suffixes at brackets suffixes n bytes h counted last many = ⊎_elim
    (λ e. (let same : n ≡ 46 = eqb-true n 46 e in rw same (dot_deep at suffixes bytes last ∙ le-leb most suffixes many)))
    (λ e. (let same : n ≡ 91 = eqb-true n 91 e in
    rw same (square_deep at brackets suffixes bytes counted last ∙ right_of (nat_le most brackets) (nat_le most suffixes) (le-leb most suffixes many))))
    (or_cases (n == 46) (n == 91) h)

many_brackets : (at : Levels) (brackets suffixes n : ℕ) (bytes : List ℕ) → n ≡ 91 → length at.suffixes ≡ brackets + 1 → last_suffixes at.suffixes ≡ suffixes
    → most ≤ brackets → is_deep at (A_token (kind.Mark n) bytes) ≡ true
many_brackets at brackets suffixes n bytes same counted last many =
    rw same (square_deep at brackets suffixes bytes counted last ∙ left_of (nat_le most brackets) (nat_le most suffixes) (le-leb most brackets many))

-- the same of a piece that the mark takes
suffix_piece : (at : Levels) (m : ℕ) (p : Piece) (b : Bool) → Takes (The_mark m) p → ((bytes : List ℕ) → is_deep at (A_token (kind.Mark m) bytes) ≡ b) → is_deep at p ≡ b
suffix_piece at m (A_token (kind.Mark n) bytes) b same deep = rw same (deep bytes)
suffix_piece at m _ b none deep = absurd none

module _ (m brackets suffixes : ℕ) (text : List ℕ) (list : List Laid) (i : ℕ) (l : Laid) where
  pub suffix_taken : StandsIn (pieces_of text list) i brackets → last_suffixes (levels (take i (pieces_of text list))).suffixes ≡ suffixes → slice_get list i ≡ Some l → Takes (The_mark m) (piece_of text l)
      → IsTrue (is_suffix_mark m) → suffixes < most → (m ≡ 91 → brackets < most) → IsTaken (The_mark m) text list i l
  suffix_taken s last h takes mark below inside = record {
    here = h;
    takes = takes;
    flat = suffix_piece (levels (take i (pieces_of text list))) m (piece_of text l) false takes
        (λ bytes. flat_suffix (levels (take i (pieces_of text list))) brackets suffixes m bytes mark s.counted last below inside);
  }

  pub suffix_many : StandsIn (pieces_of text list) i brackets → last_suffixes (levels (take i (pieces_of text list))).suffixes ≡ suffixes → slice_get list i ≡ Some l → Takes (The_mark m) (piece_of text l)
      → IsTrue (is_suffix_mark m) → most ≤ suffixes → IsNotTaken (The_mark m) text list i (TooDeep (place text (start_of l)))
  suffix_many s last h takes mark many =
      too_deep (The_mark m) text list i l h takes (suffix_piece (levels (take i (pieces_of text list))) m (piece_of text l) true takes
      (λ bytes. many_suffixes (levels (take i (pieces_of text list))) brackets suffixes m bytes mark s.counted last many))

  pub suffix_inner : StandsIn (pieces_of text list) i brackets → last_suffixes (levels (take i (pieces_of text list))).suffixes ≡ suffixes → slice_get list i ≡ Some l → Takes (The_mark m) (piece_of text l)
      → m ≡ 91 → most ≤ brackets → IsNotTaken (The_mark m) text list i (TooDeep (place text (start_of l)))
  suffix_inner s last h takes square many =
      too_deep (The_mark m) text list i l h takes (suffix_piece (levels (take i (pieces_of text list))) m (piece_of text l) true takes
      (λ bytes. many_brackets (levels (take i (pieces_of text list))) brackets suffixes m bytes square s.counted last many))
