-- The readers of integers, case by case, and the numbers that strings quote.
use Rattle.std.proofs.Common.{◌≡◌, ◌≢◌, ℕ, ◌+◌, Bool, true, false, List, [], ◌∷◌, ◌++◌, get_or, take, slice_get, Option, Some, None, refl, ◌⊎◌, inl, inr, ⊎_elim}
use Rattle.std.specs.Prelude.{Err, IfSome, IfNone}
use Rattle.bit_words.specs.Numbers.{letter, WritesDigits, AnswersMagnitude}
use Rattle.bit_words.specs.declared.number.Base.{Base}
use Rattle.bit_words.specs.declared.number.Base.TheVariants.{Binary, Octal, Decimal, Hexadecimal}
use Rattle.bit_words.specs.declared.number.Number.{Number}
use Rattle.bit_words.specs.declared.number.NumberFault.{NumberFault}
use Rattle.bit_words.specs.declared.number.NumberFault.TheVariants.{NotNumber, Over}
use Rattle.place_text.specs.declared.place.Place.{Place}
use Rattle.fir_lexer.specs.Tokens.{QuotesNumber, IsQuotedBase, IsPastRange}
use Rattle.fir_lexer.specs.declared.pieces.PieceKind.TheVariants.{TokenOf}
use Rattle.fir_lexer.specs.declared.token.Token.{Token}
use Rattle.fir_lexer.specs.declared.token.TokenKind.{TokenKind}
use Rattle.fir_lexer.specs.declared.token.TokenKind.TheVariants as kind
use Rattle.fir_lexer.proofs.Quotes.{quotes_iff}
use Rattle.fir_layout.specs.declared.laid.Laid.{Laid}
use Rattle.fir_layout.specs.declared.laid.Laid.TheVariants.{Item}
use Rattle.fir_layout.specs.Pieces.{Piece, A_token, piece_of, pieces_of, bytes_of}
use Rattle.fir_tree.specs.declared.fault.ParseFault.{ParseFault}
use Rattle.fir_grammar.specs.Faults.{Levels, levels, past, is_deep}
use Rattle.fir_grammar.specs.Grammar.{The_mark, A_number, A_quoted_number, Takes, IsQuotedNumber, quoted, quoted_minus, Nothing, Its_magnitude, Its_number, Is, A, Integer, a_plain_integer, a_negative_integer, a_quoted_integer, a_quoted, no_symbol}
use Rattle.fir_grammar.specs.Reading.{IsRefused}
use Rattle.fir_grammar.proofs.Cases.{choose, starts_string}
use Rattle.token_reader.specs.Standing.{StandsIn}
use Rattle.token_reader.specs.Parts.{IsTaken, IsNotTaken, IsNumberAt, IsTokenIn}
use Rattle.fir_expr.specs.Parts.{HasPassed}
use Rattle.fir_expr.specs.LiteralIntegers.{IsString}
use Rattle.token_reader.proofs.Composition.{Enters, enters_by_piece, piece_at, one_at, read_piece, refused_behind, refused_case}
use Rattle.token_reader.proofs.Depth.{whole_stands}
use Rattle.fir_expr.proofs.Passing.{plain, passed_then, passed_case, passed_mark, passed_number, whole_plain, room_step}
use Rattle.fir_expr.proofs.Choices.{is_mark_first, no_mark_first}

-- numbers that strings quote

quoted_base : (base : Base) → base ≢ Decimal → IsQuotedBase base
quoted_base Binary none = tt
quoted_base Octal none = tt
quoted_base Decimal none = absurd (none refl)
quoted_base Hexadecimal none = tt

no_decimal : (base : Base) → IsQuotedBase base → base ≢ Decimal
no_decimal base h = λ e. rw e at h

-- a string of quoted number form quotes a number of its magnitude
pub quotes_number : (bytes : List ℕ) (negative : Bool) (m : ℕ) → IsQuotedNumber bytes negative m → QuotesNumber bytes m
quotes_number bytes negative m (quoted base digits none sign form w) =
    record { base = base; quoted = quoted_base base none; sign = []; signed = inl refl; digits = digits; form = form; written = w }
quotes_number bytes negative m (quoted_minus base digits none sign form w) =
    record { base = base; quoted = quoted_base base none; sign = 45 ∷ []; signed = inr refl; digits = digits; form = form; written = w }

pub no_quotes : (bytes : List ℕ) → ((base : Base) (inner : List ℕ) → IsQuotedBase base → ¬ (bytes ≡ 34 ∷ letter base ∷ (inner ++ 34 ∷ []))) → (negative : Bool) (m : ℕ) → ¬ (IsQuotedNumber bytes negative m)
no_quotes bytes outside negative m (quoted base digits none sign form w) = outside base digits (quoted_base base none) form
no_quotes bytes outside negative m (quoted_minus base digits none sign form w) = outside base (45 ∷ digits) (quoted_base base none) form

-- the sign that stands before the digits
abbrev pub IsSplit : List ℕ → Bool → List ℕ → Type 0
IsSplit inner negative digits = ((negative ≡ true) × (inner ≡ 45 ∷ digits)) ⊎ ((negative ≡ false) × (get_or inner 0 0 ≢ 45) × (digits ≡ inner))

split_form : (inner : List ℕ) (negative : Bool) (digits : List ℕ) → IsSplit inner negative digits → (inner ≡ 45 ∷ digits) ⊎ ((get_or inner 0 0 ≢ 45) × (digits ≡ inner))
split_form inner negative digits s = ⊎_elim (λ minus. inl minus.1) (λ bare. inr (bare.1, bare.2)) s

module _ (bytes inner digits : List ℕ) (base : Base) (negative : Bool) (is : IsQuotedBase base) (form : bytes ≡ 34 ∷ letter base ∷ (inner ++ 34 ∷ [])) (split : IsSplit inner negative digits) where
  pub quoted_here : (m : ℕ) → WritesDigits base digits m → IsQuotedNumber bytes negative m
  quoted_here m w = ⊎_elim
      (λ minus. quoted_minus base digits (no_decimal base is) minus.0 (rw minus.1 at form) w)
      (λ bare. quoted base digits (no_decimal base is) bare.0 (rw bare.2 form) w) split

  no_digits : (fault : NumberFault) → AnswersMagnitude (WritesDigits base digits) (Err fault) → ¬ (IsPastRange (TokenOf kind.Text) bytes) → (m : ℕ) → ¬ (QuotesNumber bytes m)
  no_digits NotNumber answer in_range m q = answer m ((quotes_iff bytes inner digits base m is form (split_form inner negative digits split)).0 q)
  no_digits Over answer in_range m q = in_range (answer.0, (quotes_iff bytes inner digits base answer.0 is form (split_form inner negative digits split)).1 answer.1, answer.2)

  pub no_quoted_here : (fault : NumberFault) → AnswersMagnitude (WritesDigits base digits) (Err fault) → ¬ (IsPastRange (TokenOf kind.Text) bytes) → (sign : Bool) (m : ℕ) → ¬ (IsQuotedNumber bytes sign m)
  no_quoted_here fault answer in_range sign m q = no_digits fault answer in_range m (quotes_number bytes sign m q)

-- strings in the text

string_in_range : (k : TokenKind) (bytes : List ℕ) → k ≡ kind.Text → ¬ (IsPastRange (TokenOf k) bytes) → ¬ (IsPastRange (TokenOf kind.Text) bytes)
string_in_range k bytes e h = rw e at h

pub token_in_range : (text bytes : List ℕ) (token : Token) → IsTokenIn text token → token.kind ≡ kind.Text → bytes ≡ bytes_of text token → ¬ (IsPastRange (TokenOf kind.Text) bytes)
token_in_range text bytes token t e b = rw b (string_in_range token.kind (bytes_of text token) e t.in_range)

string_none : (k : TokenKind) (bytes : List ℕ) → k ≡ kind.Text → ((negative : Bool) (m : ℕ) → ¬ (IsQuotedNumber bytes negative m)) → ¬ (Takes A_quoted_number (A_token k bytes))
string_none k bytes e none = rw e (λ h. none h.0 h.1 h.2)

pub token_none : (text bytes : List ℕ) (token : Token) → token.kind ≡ kind.Text → bytes ≡ bytes_of text token → ((negative : Bool) (m : ℕ) → ¬ (IsQuotedNumber bytes negative m))
    → ¬ (Takes A_quoted_number (piece_of text (Item token)))
token_none text bytes token e b none = string_none token.kind (bytes_of text token) e (rw b at none)

pub quoted_some : (answer : Option Number) (P Q : Number → Type 0) → ((n : Number) → P n → Q n) → IfSome answer P → IfSome answer Q
quoted_some (Some n) P Q so h = so n h
quoted_some None P Q so h = tt

pub quoted_none : (answer : Option Number) (X Y : Type 0) → (X → Y) → IfNone answer X → IfNone answer Y
quoted_none (Some n) X Y so h = tt
quoted_none None X Y so h = so h

-- which case an integer goes on by

string_chosen : (p : Piece) (ps : List Piece) → IsString p → ◌≡◌ {A = _} (choose Integer (p ∷ ps)) (Some (_, a_quoted_integer))
string_chosen (A_token kind.Text bytes) ps h = refl
string_chosen _ ps h = absurd h

no_string_first : (p : Piece) (ps : List Piece) → ¬ (IsString p) → starts_string (p ∷ ps) ≡ false
no_string_first (A_token kind.Text bytes) ps none = absurd (none tt)
no_string_first _ ps none = refl

string_taken : (k : TokenKind) (bytes : List ℕ) (n : Number) → k ≡ kind.Text → IsQuotedNumber bytes n.negative n.magnitude → Takes A_quoted_number (A_token k bytes)
string_taken k bytes n e q = rw e (n.negative, n.magnitude, q)

string_is : (k : TokenKind) (bytes : List ℕ) → k ≡ kind.Text → IsString (A_token k bytes)
string_is k bytes e = rw e tt

string_past : (at : Levels) (k : TokenKind) (bytes : List ℕ) → k ≡ kind.Text → past at (A_token k bytes) ≡ plain at
string_past at k bytes e = rw e refl

string_flat : (at : Levels) (k : TokenKind) (bytes : List ℕ) → k ≡ kind.Text → is_deep at (A_token k bytes) ≡ false
string_flat at k bytes e = rw e refl

module _ (text : List ℕ) (list : List Laid) (i brackets : ℕ) (s : StandsIn (pieces_of text list) i brackets) where
  -- a number
  module _ (l : Laid) (h : slice_get list i ≡ Some l) (no_mark : ¬ (Takes (The_mark 45) (piece_of text l))) (no_string : ¬ (IsString (piece_of text l))) where
    enters_plain : Enters (pieces_of text list) i a_plain_integer
    enters_plain = enters_by_piece (pieces_of text list) i a_plain_integer (piece_of text l) (piece_at text list i l h)
        (λ ps. rw (no_mark_first 45 (piece_of text l) ps no_mark, no_string_first (piece_of text l) ps no_string) refl)

    pub plain_no_number : {fault : ParseFault} → IsNotTaken A_number text list i fault → IsRefused (A Integer ∷ []) text list i fault
    plain_no_number refused = refused_case a_plain_integer enters_plain (refused.refused Its_magnitude)

    pub plain_read : {major : ℕ} (names : List (List ℕ)) (at : Place) (n : ℕ) → IsNumberAt text list i at n → HasPassed major (A Integer ∷ []) text list i names (record { negative = false; magnitude = n }, tt) (i + 1) names
    plain_read names at n number = passed_case a_plain_integer enters_plain (passed_number names s number)

  -- a minus and a number
  module _ (l : Laid) (mark : IsTaken (The_mark 45) text list i l) where
    enters_negative : Enters (pieces_of text list) i a_negative_integer
    enters_negative = enters_by_piece (pieces_of text list) i a_negative_integer (piece_of text l) (piece_at text list i l mark.here) (λ ps. rw (is_mark_first 45 (piece_of text l) ps mark.takes) refl)

    minus : (major : ℕ) (names : List (List ℕ)) → HasPassed major (Is Nothing (The_mark 45) ∷ []) text list i names tt (i + 1) names
    minus major names = passed_mark 45 names s (λ at. refl) mark

    pub negative_no_number : {fault : ParseFault} → IsNotTaken A_number text list (i + 1) fault → IsRefused (A Integer ∷ []) text list i fault
    negative_no_number refused = refused_case a_negative_integer enters_negative (refused_behind (minus 3 []).read (refused.refused Its_magnitude))

    pub negative_read : {major : ℕ} (names : List (List ℕ)) (at : Place) (n : ℕ) → IsNumberAt text list (i + 1) at n
        → HasPassed major (A Integer ∷ []) text list i names (record { negative = true; magnitude = n }, tt) (i + 1 + 1) names
    negative_read {major} names at n number = passed_case a_negative_integer enters_negative (passed_then (minus major names) (passed_number names (whole_stands (minus major names).whole s) number))

  -- a string
  module _ (l : Laid) (h : slice_get list i ≡ Some l) where
    enters_quoted : IsString (piece_of text l) → Enters (pieces_of text list) i a_quoted_integer
    enters_quoted string = enters_by_piece (pieces_of text list) i a_quoted_integer (piece_of text l) (piece_at text list i l h) (λ ps. string_chosen (piece_of text l) ps string)

    pub quoted_refused : {fault : ParseFault} → IsString (piece_of text l) → IsNotTaken A_quoted_number text list i fault → IsRefused (A Integer ∷ []) text list i fault
    quoted_refused string refused = refused_case a_quoted_integer (enters_quoted string) (refused.refused Its_number)

    pub no_quoted_part : ¬ (Takes A_quoted_number (piece_of text l)) → (m : Laid) → slice_get list i ≡ Some m → ¬ (Takes A_quoted_number (piece_of text m))
    no_quoted_part none m g takes = none (rw (one_at list i m l g h) at takes)

  module _ (token : Token) (h : slice_get list i ≡ Some (Item token)) (e : token.kind ≡ kind.Text) (n : Number) (q : IsQuotedNumber (bytes_of text token) n.negative n.magnitude) (names : List (List ℕ)) where
    string_passed : {major : ℕ} → HasPassed major (Is Its_number A_quoted_number ∷ []) text list i names (n, tt) (i + 1) names
    string_passed =
        let takes = string_taken token.kind (bytes_of text token) n e q in
        record {
          read = read_piece h takes (string_flat (levels (take i (pieces_of text list))) token.kind (bytes_of text token) e) (a_quoted takes q no_symbol);
          whole = whole_plain (piece_of text (Item token)) s (piece_at text list i (Item token) h) (string_past (levels (take i (pieces_of text list))) token.kind (bytes_of text token) e);
          room = room_step names list i (Item token) h;
        }

    pub quoted_read : {major : ℕ} → HasPassed major (A Integer ∷ []) text list i names (n, tt) (i + 1) names
    quoted_read = passed_case a_quoted_integer (enters_quoted (Item token) h (string_is token.kind (bytes_of text token) e)) string_passed
