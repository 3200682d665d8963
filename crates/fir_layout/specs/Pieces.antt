-- The laid list without its offsets: each token with its kind and its bytes. What a grammar reads.
use Rattle.std.specs.Prelude.{ℕ, ◌-◌, List, take, drop, map}
use Rattle.fir_lexer.specs.declared.token.TokenKind.{TokenKind}
use Rattle.fir_lexer.specs.declared.token.Token.{Token}
use Rattle.fir_layout.specs.declared.laid.Laid.{Laid}
use Rattle.fir_layout.specs.declared.laid.Laid.TheVariants.{Item, LineEnd, Open, Close, End}

pub data Piece : Type 0 where
  A_token : TokenKind → List ℕ → Piece
  A_line_end : Piece
  A_block_opens : Piece
  A_block_closes : Piece
  The_end : Piece

-- the bytes of a token in its text
abbrev pub bytes_of : List ℕ → Token → List ℕ
bytes_of text token = take (token.end - token.start) (drop token.start text)

abbrev pub piece_of : List ℕ → Laid → Piece
piece_of text (Item token) = A_token token.kind (bytes_of text token)
piece_of text (LineEnd at) = A_line_end
piece_of text (Open at) = A_block_opens
piece_of text (Close at) = A_block_closes
piece_of text (End at) = The_end

abbrev pub pieces_of : List ℕ → List Laid → List Piece
pieces_of text laid = map (piece_of text) laid
