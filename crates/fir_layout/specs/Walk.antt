-- What the functions say that go from line to line.
use Rattle.std.specs.Prelude.{◌≡◌, ℕ, ◌-◌, ◌<◌, ◌≤◌, List, [], ◌∷◌, length, take, drop}
use Rattle.fir_lexer.specs.declared.token.Token.{Token}
use Rattle.fir_lexer.specs.declared.pieces.PieceKind.{PieceKind}
use Rattle.fir_lexer.specs.Tokens.{Lexes, tokens_of}
use Rattle.fir_layout.specs.Layout.{lines_of}

-- from an offset on the text has these pieces, and the tokens from an index on are theirs
pub record Ahead (text : List ℕ) (tokens : List Token) (at index : ℕ) (pieces : List (PieceKind × ℕ)) : Type 0 where
  pub within : at ≤ length text
  pub counted : index ≤ length tokens
  pub lexed : Lexes (drop at text) pieces []
  pub theirs : drop index tokens ≡ tokens_of at pieces

-- the first line of what is ahead ends before an offset and an index, from where these pieces are ahead
pub record PassesLine (text : List ℕ) (tokens : List Token) (at index : ℕ) (pieces : List (PieceKind × ℕ)) (end after : ℕ) : Type 0 where
  pub rest : List (PieceKind × ℕ)
  pub ahead : Ahead text tokens end after rest
  pub onward : at < end
  pub counted : index ≤ after
  pub lines : lines_of at pieces ≡ record { start = at; tokens = take (after - index) (drop index tokens) } ∷ lines_of end rest
