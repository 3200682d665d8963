-- The kinds of piece: how each begins and goes on, and the longest piece that begins a text.
use Rattle.std.specs.Prelude.{◌≡◌, ℕ, ◌<◌, ◌≤◌, Bool, true, ◌==◌, ◌&&◌, List, [], ◌∷◌, ◌++◌, take, drop, length, codes}
use Rattle.std.specs.List.{take_while, AllPass}
use Rattle.std.specs.Prelude.{false}
use Rattle.fir_lexer.specs.declared.token.TokenKind.TheVariants.{Word, Call, Quoted, Digits, Text, Arrow, Mark}
use Rattle.fir_lexer.specs.declared.pieces.PieceKind.{PieceKind}
use Rattle.fir_lexer.specs.declared.pieces.PieceKind.TheVariants.{Blank, Return, LineFeed, Comment, Info, Annotation, TokenOf}
use Rattle.fir_lexer.specs.Bytes.{one_of, is_digit, begins_word, in_digits, in_word, is_mark, in_line, Closes, IsInfoRest}

-- the bytes that a piece of a kind begins with
abbrev pub begins : PieceKind → ℕ → Bool
begins Blank b = one_of (codes " \t,") b
begins Return b = b == 13
begins LineFeed b = b == 10
begins Comment b = one_of (codes ";") b
begins Info b = one_of (codes "@") b
begins Annotation b = one_of (codes "%") b
begins (TokenOf Word) b = begins_word b
begins (TokenOf Call) b = begins_word b
begins (TokenOf Quoted) b = one_of (codes "`") b
begins (TokenOf Digits) b = is_digit b
begins (TokenOf Text) b = one_of (codes "\"") b
begins (TokenOf Arrow) b = one_of (codes "=") b
begins (TokenOf (Mark mark)) b = (b == mark) && is_mark b

-- the rest of such a piece, and what must stand behind it
abbrev pub GoesOn : PieceKind → List ℕ → List ℕ → Type 0
GoesOn Blank rest behind = rest ≡ []
GoesOn Return rest behind = (rest ≡ []) × (take 1 behind ≡ 10 ∷ [])
GoesOn LineFeed rest behind = rest ≡ []
GoesOn Comment rest behind = AllPass in_line rest
GoesOn Info rest behind = IsInfoRest rest
GoesOn Annotation rest behind = (inner : List ℕ) × (rest ≡ 91 ∷ inner) × Closes false 1 inner
GoesOn (TokenOf Word) rest behind = AllPass in_word rest
GoesOn (TokenOf Call) rest behind = rest ≡ take_while in_word rest ++ codes "("
GoesOn (TokenOf Quoted) rest behind = (1 < length rest) × (rest ≡ take_while in_word rest ++ codes "`")
GoesOn (TokenOf Digits) rest behind = AllPass in_digits rest
GoesOn (TokenOf Text) rest behind = Closes true 0 rest × AllPass in_line rest
GoesOn (TokenOf Arrow) rest behind = rest ≡ codes ">"
GoesOn (TokenOf (Mark mark)) rest behind = rest ≡ []

-- the bytes are a piece of this kind where those others stand behind it
abbrev pub IsOf : PieceKind → List ℕ → List ℕ → Type 0
IsOf kind [] behind = ⊥
IsOf kind (b ∷ rest) behind = (begins kind b ≡ true) × GoesOn kind rest behind

-- the first n bytes are a piece of this kind, and no longer front is a piece of any
pub record IsLongest (bytes : List ℕ) (kind : PieceKind) (n : ℕ) : Type 0 where
  pub within : n ≤ length bytes
  pub is : IsOf kind (take n bytes) (drop n bytes)
  pub longest : (other : PieceKind) (m : ℕ) → m ≤ length bytes → IsOf other (take m bytes) (drop m bytes) → m ≤ n

-- no piece begins here
pub record BeginsNone (bytes : List ℕ) : Type 0 where
  pub none : (kind : PieceKind) (m : ℕ) → m ≤ length bytes → IsOf kind (take m bytes) (drop m bytes) → ⊥
