-- A text as the list of its pieces, each the longest that begins where it stands; its tokens, and its first fault.
use Rattle.std.specs.Prelude.{◌≡◌, ℕ, ◌+◌, ◌<◌, ◌≤◌, ◌^◌, ◌⊎◌, true, false, List, [], ◌∷◌, ◌++◌, take, drop, length, slice_index, codes, Some}
use Rattle.place_text.specs.Places.{place}
use Rattle.bit_words.specs.Numbers.{IsMagnitude, WritesDigits, letter}
use Rattle.bit_words.specs.declared.number.Base.{Base}
use Rattle.bit_words.specs.declared.number.Base.TheVariants.{Binary, Octal, Decimal, Hexadecimal}
use Rattle.fir_lexer.specs.declared.token.Token.{Token}
use Rattle.fir_lexer.specs.declared.token.TokenKind.TheVariants.{Word, Call, Quoted, Digits, Text, Arrow, Mark}
use Rattle.fir_lexer.specs.declared.pieces.PieceKind.{PieceKind}
use Rattle.fir_lexer.specs.declared.pieces.PieceKind.TheVariants.{Blank, Return, LineFeed, Comment, Info, Annotation, TokenOf}
use Rattle.fir_lexer.specs.declared.fault.LexFault.{LexFault}
use Rattle.fir_lexer.specs.declared.fault.LexFault.TheVariants.{BadByte, BadToken, NumberRange, NoMemory}
use Rattle.fir_lexer.specs.Faults.{place_of}
use Rattle.fir_lexer.specs.Bytes.{one_of}
use Rattle.fir_lexer.specs.Pieces.{IsLongest, BeginsNone}

-- the base that a letter names in a string
abbrev pub IsQuotedBase : Base → Type 0
IsQuotedBase Hexadecimal = Unit {0}
IsQuotedBase Octal = Unit {0}
IsQuotedBase Binary = Unit {0}
IsQuotedBase Decimal = ⊥

-- A string quotes a number: h, o or b, a minus or none, and digits of that base, at least one.
pub record QuotesNumber (bytes : List ℕ) (magnitude : ℕ) : Type 0 where
  pub base : Base
  pub quoted : IsQuotedBase base
  pub sign : List ℕ
  pub signed : (sign ≡ []) ⊎ (sign ≡ codes "-")
  pub digits : List ℕ
  pub form : bytes ≡ 34 ∷ letter base ∷ (sign ++ digits ++ codes "\"")
  pub written : WritesDigits base digits magnitude

-- the piece writes a number whose magnitude is over 2^128 - 1
abbrev pub IsPastRange : PieceKind → List ℕ → Type 0
IsPastRange (TokenOf Digits) bytes = (magnitude : ℕ) × IsMagnitude bytes magnitude × (2 ^ 128 ≤ magnitude)
IsPastRange (TokenOf Text) bytes = (magnitude : ℕ) × QuotesNumber bytes magnitude × (2 ^ 128 ≤ magnitude)
IsPastRange (TokenOf Word) bytes = ⊥
IsPastRange (TokenOf Call) bytes = ⊥
IsPastRange (TokenOf Quoted) bytes = ⊥
IsPastRange (TokenOf Arrow) bytes = ⊥
IsPastRange (TokenOf (Mark mark)) bytes = ⊥
IsPastRange Blank bytes = ⊥
IsPastRange Return bytes = ⊥
IsPastRange LineFeed bytes = ⊥
IsPastRange Comment bytes = ⊥
IsPastRange Info bytes = ⊥
IsPastRange Annotation bytes = ⊥

-- the piece that a text begins with: the longest one, and no number past the range
pub record IsPiece (bytes : List ℕ) (kind : PieceKind) (n : ℕ) : Type 0 where
  pub longest : IsLongest bytes kind n
  pub in_range : ¬ (IsPastRange kind (take n bytes))

-- The text begins with these pieces, one behind the other, and the rest is left. A piece is its kind and its length.
pub data Lexes : List ℕ → List (PieceKind × ℕ) → List ℕ → Type 0 where
  no_piece : (rest : List ℕ) → Lexes rest [] rest
  then_piece : (kind : PieceKind) (n : ℕ) (pieces : List (PieceKind × ℕ)) (bytes rest : List ℕ) → IsPiece bytes kind n → Lexes (drop n bytes) pieces rest
      → Lexes bytes ((kind, n) ∷ pieces) rest

-- the bytes of the pieces, one after the other
abbrev pub joined : List ℕ → List (PieceKind × ℕ) → List ℕ
joined bytes [] = []
joined bytes (p ∷ ps) = take p.1 bytes ++ joined (drop p.1 bytes) ps

-- the token of a piece, if it is one
abbrev pub token_of : PieceKind → ℕ → ℕ → List Token
token_of (TokenOf kind) start end = record { kind = kind; start = start; end = end } ∷ []
token_of Blank start end = []
token_of Return start end = []
token_of LineFeed start end = []
token_of Comment start end = []
token_of Info start end = []
token_of Annotation start end = []

-- the tokens of pieces that begin at an offset
abbrev pub tokens_of : ℕ → List (PieceKind × ℕ) → List Token
tokens_of at [] = []
tokens_of at (p ∷ ps) = token_of p.0 at (at + p.1) ++ tokens_of (at + p.1) ps

-- these are the tokens of the whole text
pub record AreTokens (bytes : List ℕ) (tokens : List Token) : Type 0 where
  pub pieces : List (PieceKind × ℕ)
  pub lexed : Lexes bytes pieces []
  pub made : tokens ≡ tokens_of 0 pieces

-- What is wrong where a text can't go on. A string, a backquoted name, an info or an annotation that begins there is a
-- bad token, and any other byte that begins no piece is a bad byte.
abbrev pub IsWrong : LexFault → List ℕ → Type 0
IsWrong (BadByte place) bytes = BeginsNone bytes × (one_of (codes "\"`@%") (slice_index bytes 0) ≡ false)
IsWrong (BadToken place) bytes = BeginsNone bytes × (one_of (codes "\"`@%") (slice_index bytes 0) ≡ true)
IsWrong (NumberRange place) bytes = (kind : PieceKind) × (n : ℕ) × IsLongest bytes kind n × IsPastRange kind (take n bytes)
IsWrong NoMemory bytes = ⊥

-- the first fault of the text: pieces stand up to it, and none goes on
pub record IsFault (bytes : List ℕ) (at : ℕ) (fault : LexFault) : Type 0 where
  pub within : at < length bytes
  pub before : (pieces : List (PieceKind × ℕ)) × Lexes bytes pieces (drop at bytes)
  pub here : IsWrong fault (drop at bytes)
  pub stands : place_of fault ≡ Some (place bytes at)
