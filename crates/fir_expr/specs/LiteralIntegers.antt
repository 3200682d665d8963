-- Integers of literals (FIRRTL specification 3.0, "Expressions").
use Rattle.fir_lexer.specs.declared.token.TokenKind.TheVariants as kind
use Rattle.fir_layout.specs.Pieces.{Piece, A_token}

-- a string, with its quotation marks
abbrev pub IsString : Piece → Type 0
IsString (A_token kind.Text bytes) = Unit {0}
IsString _ = ⊥
