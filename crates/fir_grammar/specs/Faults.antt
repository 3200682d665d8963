-- The fault of a laid list: its first piece that can't continue a text, or that goes too deep.
use Rattle.std.specs.Prelude.{◌≡◌, ℕ, ◌+◌, ◌-◌, ◌<◌, ◌≤◌, ◌==◌, ◌||◌, ◌&&◌, nat_le, Bool, true, false, not, bytes_eq, if◌then◌else◌, List, [], ◌∷◌, ◌++◌, length, take, fold, map, Contains, slice_get, Some, codes}
use Rattle.place_text.specs.declared.place.Place.{Place}
use Rattle.place_text.specs.Places.{place}
use Rattle.fir_lexer.specs.declared.token.TokenKind.TheVariants as kind
use Rattle.fir_layout.specs.declared.laid.Laid.{Laid}
use Rattle.fir_layout.specs.Pieces.{Piece, A_token, A_line_end, A_block_opens, A_block_closes, The_end, piece_of, pieces_of}
use Rattle.fir_tree.specs.declared.fault.ParseFault.{ParseFault}
use Rattle.fir_tree.specs.declared.fault.ParseFault.TheVariants.{BadSyntax, BadVersion, Unsupported, TooDeep}
use Rattle.fir_grammar.specs.Grammar.{Takes, A_number, A, Text, Front, start_of}

-- How deep the pieces up to a place have gone: the blocks that are open, for each open bracket and for outside of all of
-- them, the innermost first, the `.` and `[` of the reference or type that stands there last, and whether the last piece is
-- a `.`, so that the next one belongs to the same reference.
pub record Levels : Type 0 where
  pub blocks : ℕ
  pub suffixes : List ℕ
  pub dotted : Bool

abbrev pub no_levels : Levels
no_levels = record { blocks = 0; suffixes = 0 ∷ []; dotted = false }

abbrev pub with_suffix : List ℕ → List ℕ
with_suffix [] = []
with_suffix (n ∷ outer) = (n + 1) ∷ outer

abbrev pub afresh : List ℕ → List ℕ
afresh [] = []
afresh (n ∷ outer) = 0 ∷ outer

abbrev pub last_suffixes : List ℕ → ℕ
last_suffixes [] = 0
last_suffixes (n ∷ outer) = n

abbrev pub without_last : List ℕ → List ℕ
without_last [] = []
without_last (n ∷ outer) = outer

-- the innermost open bracket closes; what stands outside of all stays
abbrev pub closed : List ℕ → List ℕ
closed [] = []
closed (n ∷ []) = n ∷ []
closed (n ∷ m ∷ outer) = m ∷ outer

-- The bracket of an item isn't counted.
abbrev pub is_item : List ℕ → Bool
is_item bytes = bytes_eq bytes (codes "printf(") || bytes_eq bytes (codes "stop(")

-- `.`, `[`, `(` and `{`, `]`, `)` and `}`, and all other marks
abbrev pub past_mark : ℕ → Levels → Levels
past_mark m at =
    if m == 46 then record { blocks = at.blocks; suffixes = with_suffix at.suffixes; dotted = true }
    else if m == 91 then record { blocks = at.blocks; suffixes = 0 ∷ with_suffix at.suffixes; dotted = false }
    else if (m == 40) || (m == 123) then record { blocks = at.blocks; suffixes = 0 ∷ at.suffixes; dotted = false }
    else if (m == 93) || ((m == 41) || (m == 125)) then record { blocks = at.blocks; suffixes = closed at.suffixes; dotted = false }
    else record { blocks = at.blocks; suffixes = at.suffixes; dotted = false }

-- a name or digits: a field behind a `.`, else something new
abbrev pub past_text : Levels → Levels
past_text at = record { blocks = at.blocks; suffixes = if at.dotted then at.suffixes else afresh at.suffixes; dotted = false }

abbrev pub past : Levels → Piece → Levels
past at (A_token kind.Word bytes) = past_text at
past at (A_token kind.Quoted bytes) = past_text at
past at (A_token kind.Digits bytes) = past_text at
past at (A_token kind.Call bytes) = record { blocks = at.blocks; suffixes = if is_item bytes then at.suffixes else 0 ∷ at.suffixes; dotted = false }
past at (A_token kind.Text bytes) = record { blocks = at.blocks; suffixes = at.suffixes; dotted = false }
past at (A_token kind.Arrow bytes) = record { blocks = at.blocks; suffixes = at.suffixes; dotted = false }
past at (A_token (kind.Mark m) bytes) = past_mark m at
past at A_line_end = record { blocks = at.blocks; suffixes = at.suffixes; dotted = false }
past at A_block_opens = record { blocks = at.blocks + 1; suffixes = at.suffixes; dotted = false }
past at A_block_closes = record { blocks = at.blocks - 1; suffixes = at.suffixes; dotted = false }
past at The_end = record { blocks = at.blocks; suffixes = at.suffixes; dotted = false }

abbrev pub levels : List Piece → Levels
levels pieces = fold past no_levels pieces

-- as many levels as there may be
abbrev pub most : ℕ
most = 128

-- A piece goes too deep here: it opens a block or a bracket (`(`, `[`, `{` or a word with its `(`) where the most are open,
-- or it is a `.` or `[` where its reference or type has the most.
abbrev pub is_deep : Levels → Piece → Bool
is_deep at (A_token kind.Call bytes) = not (is_item bytes) && nat_le most (length at.suffixes - 1)
is_deep at (A_token (kind.Mark m) bytes) =
    (((m == 40) || ((m == 91) || (m == 123))) && nat_le most (length at.suffixes - 1)) || (((m == 46) || (m == 91)) && nat_le most (last_suffixes at.suffixes))
is_deep at A_block_opens = nat_le most at.blocks
is_deep _ _ = false

pub record IsDeepAt (pieces : List Piece) (k : ℕ) : Type 0 where
  pub piece : Piece
  pub stands : slice_get pieces k ≡ Some piece
  pub deep : is_deep (levels (take k pieces)) piece ≡ true

-- no piece from i up to k goes too deep
pub record IsShallow (pieces : List Piece) (i k : ℕ) : Type 0 where
  pub none : (n : ℕ) → i ≤ n → n < k → ¬ (IsDeepAt pieces n)

-- the words of constructs that aren't supported
abbrev pub listed_words : List (List ℕ)
listed_words =
    codes "extmodule" ∷ codes "intmodule" ∷ codes "parameter" ∷ codes "defname" ∷ codes "intrinsic" ∷ codes "layer" ∷ codes "layerblock"
    ∷ codes "group" ∷ codes "declgroup" ∷ codes "type" ∷ codes "option" ∷ codes "Probe" ∷ codes "RWProbe" ∷ codes "probe" ∷ codes "rwprobe" ∷ codes "read"
    ∷ codes "define" ∷ codes "force" ∷ codes "force_initial" ∷ codes "release" ∷ codes "release_initial" ∷ codes "Analog" ∷ codes "attach" ∷ codes "match"
    ∷ codes "const" ∷ codes "validif" ∷ codes "asClock" ∷ codes "assert" ∷ codes "assume" ∷ codes "cover" ∷ codes "cmem" ∷ codes "smem" ∷ codes "infer"
    ∷ codes "mport" ∷ codes "write" ∷ codes "rdwr" ∷ codes "propassign" ∷ codes "Integer" ∷ codes "String" ∷ codes "class" ∷ codes "object"
    ∷ codes "AsyncReset" ∷ codes "asAsyncReset" ∷ []

-- the vertical bar, or a word of the list, with a `(` directly behind it or without
abbrev pub IsListed : Piece → Type 0
IsListed (A_token kind.Word bytes) = Contains listed_words bytes
IsListed (A_token kind.Call bytes) = Contains (map (λ text. text ++ codes "(") listed_words) bytes
IsListed (A_token (kind.Mark m) bytes) = m ≡ 124
IsListed _ = ⊥

-- how a bad piece is named, but for the version
pub data IsNamed (piece : Piece) (at : Place) : ParseFault → Type 0 where
  listed : IsListed piece → IsNamed piece at (Unsupported at)
  unlisted : ¬ (IsListed piece) → IsNamed piece at (BadSyntax at)

-- the pieces before it are a front of a text, those with it aren't, and none before it goes too deep
pub record IsBad (pieces : List Piece) (k : ℕ) : Type 0 where
  pub before : Front (A Text ∷ []) (take k pieces)
  pub here : ¬ (Front (A Text ∷ []) (take (k + 1) pieces))
  pub shallow : IsShallow pieces 0 k

-- the pieces with it are a front of a text, and it is the first that goes too deep
pub record IsTooDeep (pieces : List Piece) (k : ℕ) : Type 0 where
  pub here : Front (A Text ∷ []) (take (k + 1) pieces)
  pub deep : IsDeepAt pieces k
  pub shallow : IsShallow pieces 0 k

-- The fault of a laid list. The version's first number is its third piece.
pub data FaultOf (text : List ℕ) (list : List Laid) : ParseFault → Type 0 where
  a_version : (l : Laid) → slice_get list 2 ≡ Some l → IsBad (pieces_of text list) 2 → Takes A_number (piece_of text l)
      → FaultOf text list (BadVersion (place text (start_of l)))
  a_bad_piece : (k : ℕ) (l : Laid) (fault : ParseFault) → slice_get list k ≡ Some l → IsBad (pieces_of text list) k
      → ¬ ((k ≡ 2) × Takes A_number (piece_of text l)) → IsNamed (piece_of text l) (place text (start_of l)) fault → FaultOf text list fault
  a_deep_piece : (k : ℕ) (l : Laid) → slice_get list k ≡ Some l → IsTooDeep (pieces_of text list) k → FaultOf text list (TooDeep (place text (start_of l)))
