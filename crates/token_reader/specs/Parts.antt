-- A part of a laid list as a reader finds it, and a piece that a reader has taken.
use Rattle.std.specs.Prelude.{◌≡◌, ℕ, ◌+◌, ◌-◌, ◌^◌, ◌<◌, ◌≤◌, Bool, false, not, ◌==◌, ◌||◌, List, [], ◌∷◌, length, take, slice_get, Some, Result, Ok, Err}
use Rattle.place_text.specs.declared.place.Place.{Place}
use Rattle.place_text.specs.Places.{place}
use Rattle.bit_words.specs.Numbers.{IsMagnitude}
use Rattle.fir_lexer.specs.declared.token.Token.{Token}
use Rattle.fir_lexer.specs.declared.pieces.PieceKind.TheVariants.{TokenOf}
use Rattle.fir_lexer.specs.Pieces.{IsOf}
use Rattle.fir_lexer.specs.Tokens.{IsPastRange}
use Rattle.fir_types.specs.declared.name.Name.{Name}
use Rattle.fir_layout.specs.declared.laid.Laid.{Laid}
use Rattle.fir_layout.specs.declared.laid.Laid.TheVariants.{Item, LineEnd, Open, Close, End}
use Rattle.fir_layout.specs.Pieces.{piece_of, pieces_of, bytes_of}
use Rattle.fir_tree.specs.declared.fault.ParseFault.{ParseFault}
use Rattle.fir_tree.specs.Numbered.{AddsName}
use Rattle.fir_grammar.specs.Faults.{levels, is_deep}
use Rattle.fir_grammar.specs.Grammar.{Terminal, A_name, A_field, A_number, Takes, Kept, Is, name_in}
use Rattle.fir_grammar.specs.Reading.{IsRefused}
use Rattle.token_reader.specs.declared.take.NameSort.{NameSort}
use Rattle.token_reader.specs.declared.take.NameSort.TheVariants as sort
use Rattle.token_reader.specs.Standing.{IsLaidFrom}

-- the text and its laid list, as each reader takes them
pub record IsSource (text : List ℕ) (list : List Laid) : Type 0 where
  pub short : length text < 2 ^ 32 - 1
  pub laid : IsLaidFrom text list

-- a token with its bytes in the text, of its kind, and no number past the range
pub record IsTokenIn (text : List ℕ) (token : Token) : Type 0 where
  pub some : token.start < token.end
  pub within : token.end ≤ length text
  pub behind : List ℕ
  pub of : IsOf (TokenOf token.kind) (bytes_of text token) behind
  pub in_range : ¬ (IsPastRange (TokenOf token.kind) (bytes_of text token))

abbrev pub IsPartOf : List ℕ → Laid → Type 0
IsPartOf text (Item token) = IsTokenIn text token
IsPartOf text (LineEnd at) = at ≤ length text
IsPartOf text (Open at) = at ≤ length text
IsPartOf text (Close at) = at ≤ length text
IsPartOf text (End at) = at ≤ length text

-- The part at the place is what the terminal asks for, and doesn't go too deep.
pub record IsTaken (s : Terminal) (text : List ℕ) (list : List Laid) (i : ℕ) (l : Laid) : Type 0 where
  pub here : slice_get list i ≡ Some l
  pub takes : Takes s (piece_of text l)
  pub flat : is_deep (levels (take i (pieces_of text list))) (piece_of text l) ≡ false

-- the fault is a refusal of the terminal
pub record IsNotTaken (s : Terminal) (text : List ℕ) (list : List Laid) (i : ℕ) (fault : ParseFault) : Type 0 where
  pub refused : (keeps : Kept) → IsRefused (Is keeps s ∷ []) text list i fault

-- what is answered where the terminal is wanted
abbrev pub AnswersPiece : Terminal → List ℕ → List Laid → ℕ → Result Laid ParseFault → Type 0
AnswersPiece s text list i (Ok l) = IsTaken s text list i l
AnswersPiece s text list i (Err fault) = IsNotTaken s text list i fault

-- The marks that open no bracket and begin no suffix, so that they never go too deep.
abbrev pub is_flat : ℕ → Bool
is_flat m = not (((m == 40) || ((m == 91) || (m == 123))) || ((m == 46) || (m == 91)))

-- A number stands at the place, with its own place and its magnitude.
pub record IsNumberAt (text : List ℕ) (list : List Laid) (i : ℕ) (at : Place) (magnitude : ℕ) : Type 0 where
  pub token : Token
  pub taken : IsTaken A_number text list i (Item token)
  pub is : IsMagnitude (bytes_of text token) magnitude
  pub place : at ≡ place text token.start

-- A name of this kind stands at the place, with its number among the names that are held then.
pub record IsNameAt (s : Terminal) (text : List ℕ) (list : List Laid) (i : ℕ) (names : List (List ℕ)) (name : Name) (after : List (List ℕ)) : Type 0 where
  pub token : Token
  pub taken : IsTaken s text list i (Item token)
  pub adds : AddsName names after (name_in token.kind (bytes_of text token)) name.id
  pub place : name.place ≡ place text token.start
  pub grows : length after ≤ length names + 1

-- the marks that open a bracket and begin no suffix
abbrev pub is_opening : ℕ → Bool
is_opening m = (m == 40) || (m == 123)

-- the marks that begin a suffix: `.` and `[`
abbrev pub is_suffix_mark : ℕ → Bool
is_suffix_mark m = (m == 46) || (m == 91)

-- the part at the place is what the terminal asks for, deep or not
pub record StartsWith (s : Terminal) (text : List ℕ) (list : List Laid) (i : ℕ) : Type 0 where
  pub part : Laid
  pub here : slice_get list i ≡ Some part
  pub takes : Takes s (piece_of text part)

-- what the grammar asks for where a name of this sort is wanted
abbrev pub terminal_of : NameSort → Terminal
terminal_of sort.Plain = A_name
terminal_of sort.Field = A_field
