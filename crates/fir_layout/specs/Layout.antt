-- Layout: the lines of a text, the blocks that their indents open and close, and the first line that fits no open block.
use Rattle.std.specs.Prelude.{◌≡◌, ◌≢◌, ℕ, ◌+◌, ◌-◌, ◌<◌, ◌≤◌, Bool, true, false, ◌==◌, nat_lt, if◌then◌else◌, List, [], ◌∷◌, ◌++◌, length, slice_index, slice_index_or, take, drop, map, replicate}
use Rattle.std.specs.List.{prefix_len, suffix_len, flat_map}
use Rattle.fir_lexer.specs.declared.token.Token.{Token}
use Rattle.fir_lexer.specs.declared.pieces.PieceKind.{PieceKind}
use Rattle.fir_lexer.specs.declared.pieces.PieceKind.TheVariants.{Blank, Return, LineFeed, Comment, Info, Annotation, TokenOf}
use Rattle.fir_lexer.specs.Tokens.{Lexes, token_of}
use Rattle.fir_layout.specs.declared.laid.Laid.{Laid}
use Rattle.fir_layout.specs.declared.laid.Laid.TheVariants.{Item, LineEnd, Open, Close, End}

-- a line: the offset where it begins, and its tokens
pub record Line : Type 0 where
  pub start : ℕ
  pub tokens : List Token

-- The pieces that end a line. A line feed in an annotation is no piece of its own, and so ends none.
abbrev pub ends_line : PieceKind → Bool
ends_line LineFeed = true
ends_line Blank = false
ends_line Return = false
ends_line Comment = false
ends_line Info = false
ends_line Annotation = false
ends_line (TokenOf kind) = false

-- the lines, the first of which begins here with these tokens
abbrev pub begun_with : ℕ → List Token → List Line → List Line
begun_with at tokens [] = record { start = at; tokens = tokens } ∷ []
begun_with at tokens (line ∷ lines) = record { start = at; tokens = tokens ++ line.tokens } ∷ lines

-- the lines of pieces that begin at an offset
abbrev pub lines_of : ℕ → List (PieceKind × ℕ) → List Line
lines_of at [] = []
lines_of at (p ∷ ps) = if ends_line p.0 then record { start = at; tokens = [] } ∷ lines_of (at + p.1) ps
    else begun_with at (token_of p.0 at (at + p.1)) (lines_of (at + p.1) ps)

-- how many spaces a line begins with, and the offset behind them
abbrev pub indent : List ℕ → Line → ℕ
indent text line = prefix_len (λ b. b == 32) (drop line.start text)

abbrev pub content : List ℕ → Line → ℕ
content text line = line.start + indent text line

-- Open blocks are the list of their indents, the outermost first. The level is that of the last, and 0 where none is open.
abbrev pub level : List ℕ → ℕ
level blocks = slice_index blocks (length blocks - 1)

-- how many of the last blocks are deeper than an indent, and those before them
abbrev pub deeper_count : ℕ → List ℕ → ℕ
deeper_count indent blocks = suffix_len (λ b. nat_lt indent b) blocks

abbrev pub not_deeper : ℕ → List ℕ → List ℕ
not_deeper indent blocks = take (length blocks - deeper_count indent blocks) blocks

-- what an indent opens or closes, at an offset, and the blocks that are open then
pub data Turns (blocks : List ℕ) (indent at : ℕ) : List Laid → List ℕ → Type 0 where
  greater : level blocks < indent → Turns blocks indent at (Open at ∷ []) (blocks ++ indent ∷ [])
  equal : level blocks ≡ indent → Turns blocks indent at [] blocks
  smaller : indent < level blocks → level (not_deeper indent blocks) ≡ indent
      → Turns blocks indent at (replicate (deeper_count indent blocks) (Close at)) (not_deeper indent blocks)

-- the offset behind the last of the tokens
abbrev pub end_of : List Token → ℕ
end_of [] = 0
end_of (t ∷ []) = t.end
end_of (t ∷ u ∷ ts) = end_of (u ∷ ts)

-- the tokens of a line and its end
abbrev pub items : List Token → List Laid
items tokens = map Item tokens ++ LineEnd (end_of tokens) ∷ []

-- what a line is laid out to, and the blocks that are open behind it
pub data OfLine (text blocks : List ℕ) (line : Line) : List Laid → List ℕ → Type 0 where
  skipped : line.tokens ≡ [] → OfLine text blocks line [] blocks
  filled : (turns : List Laid) (after : List ℕ) → line.tokens ≢ [] → slice_index text (content text line) ≢ 9
      → Turns blocks (indent text line) (content text line) turns after → OfLine text blocks line (turns ++ items line.tokens) after

-- the first of the lines are laid out, one behind the other, and the others are left
pub data OfLines (text : List ℕ) : List ℕ → List Line → List Laid → List ℕ → List Line → Type 0 where
  no_line : (blocks : List ℕ) (lines : List Line) → OfLines text blocks lines [] blocks lines
  then_line : (blocks next after : List ℕ) (line : Line) (lines rest : List Line) (laid more : List Laid) → OfLine text blocks line laid next
      → OfLines text next lines more after rest → OfLines text blocks (line ∷ lines) (laid ++ more) after rest

-- the laid list of a text
pub record IsLaidOut (text : List ℕ) (laid : List Laid) : Type 0 where
  pub pieces : List (PieceKind × ℕ)
  pub lexed : Lexes text pieces []
  pub body : List Laid
  pub blocks : List ℕ
  pub lines : OfLines text [] (lines_of 0 pieces) body blocks []
  pub made : laid ≡ (body ++ replicate (length blocks) (Close (length text))) ++ End (length text) ∷ []

-- the first line that has no case, at the byte behind its spaces
pub record IsBadIndent (text : List ℕ) (at : ℕ) : Type 0 where
  pub pieces : List (PieceKind × ℕ)
  pub lexed : Lexes text pieces []
  pub body : List Laid
  pub blocks : List ℕ
  pub line : Line
  pub rest : List Line
  pub before : OfLines text [] (lines_of 0 pieces) body blocks (line ∷ rest)
  pub no_case : (laid : List Laid) (after : List ℕ) → ¬ (OfLine text blocks line laid after)
  pub here : at ≡ content text line

-- the token of a laid part
abbrev pub token_in : Laid → List Token
token_in (Item token) = token ∷ []
token_in (LineEnd at) = []
token_in (Open at) = []
token_in (Close at) = []
token_in (End at) = []

abbrev pub tokens_in : List Laid → List Token
tokens_in laid = flat_map token_in laid

-- the offsets of a laid part stand in the text, and a part is no End
abbrev pub IsInside : ℕ → Laid → Type 0
IsInside size (Item token) = (token.start < token.end) × (token.end ≤ size)
IsInside size (LineEnd at) = at ≤ size
IsInside size (Open at) = at ≤ size
IsInside size (Close at) = at ≤ size
IsInside size (End at) = ⊥

-- all parts but the last one stand in the text and are no End, and the last is End at the text's end
pub record EndsOnce (size : ℕ) (laid : List Laid) : Type 0 where
  pub front : List Laid
  pub made : laid ≡ front ++ End size ∷ []
  pub inside : (k : ℕ) (d : Laid) → k < length front → IsInside size (slice_index_or front k d)
