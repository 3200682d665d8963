-- How far a reader of a laid list has come by the grammar.
--
-- A reader begins at a place i of the list with the names used so far. It answers the trees of the symbols that it reads,
-- the place j behind them and the names used then (`HasRead`), or a fault with its piece (`IsRefused`). Both speak of every
-- list of symbols that may stand behind: the reader takes the longest type, expression or statement, since none of what
-- may stand behind begins with a piece that could go on with it (`IsSettled`).
use Rattle.std.specs.Prelude.{◌≡◌, ℕ, ◌+◌, ◌<◌, ◌≤◌, List, [], ◌∷◌, ◌++◌, length, take, drop, slice_get, Some, Result, Ok, Err, MatchResult, codes}
use Rattle.place_text.specs.Places.{place}
use Rattle.fir_layout.specs.declared.laid.Laid.{Laid}
use Rattle.fir_layout.specs.Pieces.{Piece, piece_of, pieces_of}
use Rattle.fir_tree.specs.declared.fault.ParseFault.{ParseFault}
use Rattle.fir_tree.specs.declared.fault.ParseFault.TheVariants.{NoMemory, TooDeep}
use Rattle.fir_grammar.specs.Grammar.{Terminal, The_word, The_mark, Opens, Takes, Symbol, Kept, Is, A, Rule, IsCase, Text, Tree, Circuit_body, Module, Module_body, Port, Type_of, Lengths, Base_type, Width, Field, Statement, Block, Branches, Memory_line, Expression, Expressions, Reference, Suffixes, Derives, Front, Values, Spells, start_of}
use Rattle.fir_tree.specs.Numbered.{IsDistinct}
use Rattle.fir_grammar.specs.Faults.{IsShallow, IsDeepAt, IsNamed}

-- the pieces that a rule could go on with behind some of its lists
abbrev pub goes_on_with : Rule → List Terminal
goes_on_with Circuit_body = Opens ∷ []
goes_on_with Module = Opens ∷ []
goes_on_with Module_body = Opens ∷ []
goes_on_with Port = The_mark 60 ∷ The_mark 91 ∷ []
goes_on_with Type_of = The_mark 60 ∷ The_mark 91 ∷ []
goes_on_with Lengths = The_mark 91 ∷ []
goes_on_with Base_type = The_mark 60 ∷ []
goes_on_with Width = The_mark 60 ∷ []
goes_on_with Field = The_mark 60 ∷ The_mark 91 ∷ []
goes_on_with Statement = The_word (codes "else") ∷ Opens ∷ []
goes_on_with Block = Opens ∷ []
goes_on_with Branches = The_word (codes "else") ∷ Opens ∷ []
goes_on_with Memory_line = The_mark 60 ∷ The_mark 91 ∷ []
goes_on_with Expression = The_mark 46 ∷ The_mark 91 ∷ The_mark 60 ∷ []
goes_on_with (Expressions n) = The_mark 46 ∷ The_mark 91 ∷ The_mark 60 ∷ []
goes_on_with Reference = The_mark 46 ∷ The_mark 91 ∷ []
goes_on_with Suffixes = The_mark 46 ∷ The_mark 91 ∷ []
goes_on_with _ = []

-- what the symbols derive doesn't begin with a piece that the terminal takes
pub record CannotBegin (ss : List Symbol) (s : Terminal) : Type 0 where
  pub none : (p : Piece) (ps : List Piece) → Takes s p → ¬ (Front ss (p ∷ ps))

abbrev pub CannotBeginAll : List Symbol → List Terminal → Type 0
CannotBeginAll ss [] = Unit {0}
CannotBeginAll ss (s ∷ others) = CannotBegin ss s × CannotBeginAll ss others

-- behind each rule stands nothing that begins with a piece that it could go on with
abbrev pub IsSettled : List Symbol → Type 0
IsSettled [] = Unit {0}
IsSettled (Is k s ∷ ss) = IsSettled ss
IsSettled (A r ∷ ss) = CannotBeginAll ss (goes_on_with r) × IsSettled ss

-- the symbols that may be wanted somewhere in a text
pub data Stands : List Symbol → Type 0 where
  at_first : Stands (A Text ∷ [])
  into_case : {r : Rule} {body ss : List Symbol} → IsCase r body → Stands (A r ∷ ss) → Stands (body ++ ss)
  behind_rule : {r : Rule} {ss : List Symbol} → Stands (A r ∷ ss) → Stands ss
  behind_piece : {k : Kept} {s : Terminal} {ss : List Symbol} → Stands (Is k s ∷ ss) → Stands ss

-- the pieces from i up to k
unfoldable pub part : List Piece → ℕ → ℕ → List Piece
part pieces i k = drop i (take k pieces)

-- The symbols derive the pieces from i to j, and no list that they derive begins with these and the piece behind them.
pub record IsLongest (pieces : List Piece) (symbols : List Symbol) (i j : ℕ) : Type 0 where
  pub derived : Derives symbols (part pieces i j)
  pub ends : ¬ (Front symbols (part pieces i (j + 1)))

-- The pieces from i to j are what stands before `rest` in `symbols`: wherever the text is cut from j on, it is a front by
-- the symbols from i exactly where it is a front by the rest from j; and where it is derived by the symbols, as far as they
-- go, it is derived by the rest.
pub record Leads (pieces : List Piece) (symbols : List Symbol) (i : ℕ) (rest : List Symbol) (j : ℕ) : Type 0 where
  pub onward : i ≤ j
  pub back : (k : ℕ) → j ≤ k → Front rest (part pieces j k) → Front symbols (part pieces i k)
  pub forth : (k : ℕ) → j ≤ k → Front symbols (part pieces i k) → Front rest (part pieces j k)
  pub whole : (k : ℕ) → j ≤ k → IsLongest pieces symbols i k → Derives rest (part pieces j k)

-- the piece at k is the first, from i on, that cannot continue the symbols, and the pieces before it aren't all of them
pub record Stops (pieces : List Piece) (symbols : List Symbol) (i k : ℕ) : Type 0 where
  pub onward : i ≤ k
  pub within : k < length pieces
  pub before : Front symbols (part pieces i k)
  pub here : ¬ (Front symbols (part pieces i (k + 1)))
  pub wanting : ¬ (Derives symbols (part pieces i k))

-- the symbols were read from i to j, and give these values
pub record HasRead (major : ℕ) (symbols : List Symbol) (text : List ℕ) (list : List Laid) (i : ℕ) (names : List (List ℕ)) (vs : Values symbols) (j : ℕ) (after : List (List ℕ)) : Type 0 where
  pub onward : i ≤ j
  pub within : j ≤ length list
  pub leads : (rest : List Symbol) → IsSettled (symbols ++ rest) → Leads (pieces_of text list) (symbols ++ rest) i rest j
  pub shallow : IsShallow (pieces_of text list) i j
  pub spelled : Spells major text symbols (drop i list) names vs (drop j list) after

-- the symbols were refused: at the first piece that can't continue them, or at the first that goes too deep
pub data IsRefused (symbols : List Symbol) (text : List ℕ) (list : List Laid) (i : ℕ) : ParseFault → Type 0 where
  no_memory : IsRefused symbols text list i NoMemory
  at_bad_piece : (k : ℕ) (l : Laid) (fault : ParseFault) → slice_get list k ≡ Some l
      → ((rest : List Symbol) → IsSettled (symbols ++ rest) → Stops (pieces_of text list) (symbols ++ rest) i k)
      → IsShallow (pieces_of text list) i k → IsNamed (piece_of text l) (place text (start_of l)) fault → IsRefused symbols text list i fault
  at_deep_piece : (k : ℕ) (l : Laid) → slice_get list k ≡ Some l → i ≤ k
      → ((rest : List Symbol) → IsSettled (symbols ++ rest) → Front (symbols ++ rest) (part (pieces_of text list) i (k + 1)))
      → IsShallow (pieces_of text list) i k → IsDeepAt (pieces_of text list) k → IsRefused symbols text list i (TooDeep (place text (start_of l)))

-- what a reader of one rule answers
abbrev pub Reads : ℕ → (r : Rule) → List ℕ → List Laid → ℕ → List (List ℕ) → Result (Tree r) ParseFault → ℕ → List (List ℕ) → Type 0
Reads major r text list i names (Ok x) j after = HasRead major (A r ∷ []) text list i names (x, tt) j after
Reads major r text list i names (Err fault) j after = IsRefused (A r ∷ []) text list i fault

-- The list spells these values from i to j and no more: no piece goes too deep, and the one at j can't go on with them.
pub record SpellsLongest (major : ℕ) (symbols : List Symbol) (text : List ℕ) (list : List Laid) (i : ℕ) (names : List (List ℕ)) (vs : Values symbols) (j : ℕ) (after : List (List ℕ)) : Type 0 where
  pub onward : i ≤ j
  pub within : j ≤ length list
  pub spelled : Spells major text symbols (drop i list) names vs (drop j list) after
  pub ends : ¬ (Front symbols (part (pieces_of text list) i (j + 1)))
  pub shallow : IsShallow (pieces_of text list) i j

-- What a reader of one rule answers where the list spells a tree of it and no more: that tree, and it stands behind it. Only
-- memory can be wanted.
abbrev pub ReadsLongest : ℕ → (r : Rule) → List ℕ → List Laid → ℕ → List (List ℕ) → Result (Tree r) ParseFault → ℕ → List (List ℕ) → Type 0
ReadsLongest major r text list i names result j after = (x : Tree r) (k : ℕ) (more : List (List ℕ)) → IsDistinct names → SpellsLongest major (A r ∷ []) text list i names (x, tt) k more
    → MatchResult result (λ given. (given ≡ x) × (j ≡ k) × (after ≡ more)) (λ fault. fault ≡ NoMemory)
