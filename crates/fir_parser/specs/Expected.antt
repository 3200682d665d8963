-- What a reader asks of the piece at its place.
use Prim.Native.String.{String}
use Rattle.std.specs.Prelude.{◌≡◌, ◌⊎◌, ◌+◌, ◌++◌, ℕ, true, List, codes, [], ◌∷◌, slice_get, Some}
use Rattle.fir_lexer.specs.declared.token.Token.{Token}
use Rattle.fir_lexer.specs.declared.token.TokenKind.TheVariants as kind
use Rattle.fir_layout.specs.declared.laid.Laid.{Laid}
use Rattle.fir_layout.specs.declared.laid.Laid.TheVariants.{Item}
use Rattle.fir_layout.specs.Pieces.{piece_of, bytes_of}
use Rattle.fir_tree.specs.declared.fault.ParseFault.{ParseFault}
use Rattle.fir_tree.specs.declared.print.Piece.{Piece as PrintPiece}
use Rattle.item_lines.specs.Formats.{IsQuotedFormat}
use Rattle.fir_grammar.specs.Grammar.{Terminal, The_word, The_call, The_mark, The_arrow, A_name, Line_ends, Opens, Closes, Ends, Takes, Kept, Is}
use Rattle.fir_grammar.specs.Faults.{is_item}
use Rattle.fir_grammar.specs.Reading.{IsRefused}
use Rattle.fir_expr.specs.declared.reader.Reader.{Reader}
use Rattle.fir_parser.specs.Taking.{StandsAt}
use Rattle.fir_parser.specs.declared.symbols.Expected.{Expected}
use Rattle.fir_parser.specs.declared.symbols.Expected.TheVariants as expected

-- what it is in the grammar
abbrev pub terminal : Expected → Terminal
terminal (expected.Word text) = The_word text.now
terminal (expected.Call text) = The_call text.now
terminal expected.Name = A_name
terminal (expected.Mark m) = The_mark m
terminal expected.Arrow = The_arrow
terminal expected.LineEnd = Line_ends
terminal expected.Open = Opens
terminal expected.Close = Closes
terminal expected.End = Ends

-- `:`, `=` and `)`
abbrev pub IsQuietMark : ℕ → Type 0
IsQuietMark m = (m ≡ 58) ⊎ ((m ≡ 61) ⊎ (m ≡ 41))

-- It opens nothing that is counted, closes nothing where no bracket that is counted is open, and is no `.`.
abbrev pub IsQuiet : Expected → Type 0
IsQuiet (expected.Word text) = Unit {0}
IsQuiet (expected.Call text) = is_item (text.now ++ codes "(") ≡ true
IsQuiet expected.Name = Unit {0}
IsQuiet (expected.Mark m) = IsQuietMark m
IsQuiet expected.Arrow = Unit {0}
IsQuiet expected.LineEnd = Unit {0}
IsQuiet expected.Open = ⊥
IsQuiet expected.Close = ⊥
IsQuiet expected.End = Unit {0}

-- the terminal takes the piece at the reader's place
pub record Meets (s : Terminal) (reader : Reader) : Type 0 where
  pub laid : Laid
  pub stands : slice_get reader.laid.now reader.at ≡ Some laid
  pub takes : Takes s (piece_of reader.bytes.now laid)

-- a line begins there with this word
abbrev pub Begins : String → Reader → Type 0
Begins text reader = StandsAt reader × Meets (The_word (codes text)) reader

-- a line begins there with this word and its `(`
abbrev pub BeginsItem : String → Reader → Type 0
BeginsItem text reader = StandsAt reader × Meets (The_call (codes text)) reader

-- and the piece behind it
pub record MeetsNext (s : Terminal) (reader : Reader) : Type 0 where
  pub laid : Laid
  pub stands : slice_get reader.laid.now (reader.at + 1) ≡ Some laid
  pub takes : Takes s (piece_of reader.bytes.now laid)

-- the fault of the piece at the reader's place, where no terminal that is wanted takes it
pub record NamesHere (reader : Reader) (fault : ParseFault) : Type 0 where
  pub refused : (s : Terminal) → ¬ (Meets s reader) → (keeps : Kept) → IsRefused (Is keeps s ∷ []) reader.bytes.now reader.laid.now reader.at fault

-- a string stands at the reader's place that is a format of these pieces
pub record IsFormatHere (reader : Reader) (pieces : List PrintPiece) : Type 0 where
  pub token : Token
  pub stands : slice_get reader.laid.now reader.at ≡ Some (Item token)
  pub text : token.kind ≡ kind.Text
  pub is : IsQuotedFormat (bytes_of reader.bytes.now token) pieces
