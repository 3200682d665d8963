-- Where a reader of circuits stands, and what it takes from one place to another.
use Rattle.std.specs.Prelude.{◌≡◌, ℕ, ◌+◌, ◌-◌, ◌^◌, ◌≤◌, ◌<◌, false, List, [], ◌∷◌, length, take, Result, Ok, Err}
use Rattle.fir_layout.specs.declared.laid.Laid.{Laid}
use Rattle.fir_layout.specs.declared.laid.Laid.TheVariants.{Item, LineEnd, Open, Close, End}
use Rattle.fir_layout.specs.Pieces.{Piece, pieces_of}
use Rattle.fir_tree.specs.declared.fault.ParseFault.{ParseFault}
use Rattle.fir_grammar.specs.Grammar.{Symbol, A, Rule, Tree, Values}
use Rattle.fir_grammar.specs.Faults.{Levels, levels, last_suffixes}
use Rattle.fir_grammar.specs.Reading.{HasRead, IsRefused}
use Rattle.fir_expr.specs.declared.reader.Reader.{Reader}
use Rattle.token_reader.specs.Standing.{IsLaidFrom, wanted}

-- the pieces of a reader's list
abbrev pub pieces : Reader → List Piece
pieces reader = pieces_of reader.bytes.now reader.laid.now

-- how deep the pieces before the reader's place have gone
abbrev pub here : Reader → Levels
here reader = levels (take reader.at (pieces reader))

-- how many blocks are open at the reader's place
abbrev pub blocks_at : Reader → ℕ
blocks_at reader = (here reader).blocks

-- A line may begin or go on at the reader's place: no bracket is open, no `.` stands before it, and there is room for the
-- names that follow.
pub record StandsAt (reader : Reader) : Type 0 where
  pub short : length reader.bytes.now < 2 ^ 32 - 1
  pub laid : IsLaidFrom reader.bytes.now reader.laid.now
  pub within : reader.at ≤ length reader.laid.now
  pub room : wanted reader.names reader.laid.now reader.at < 2 ^ 32 - 1
  pub outside : reader.brackets ≡ 0
  pub one : length (here reader).suffixes ≡ 1
  pub no_dot : (here reader).dotted ≡ false

-- no `.` and no `[` counts at the place, so that a type may begin there
pub record IsFresh (reader : Reader) : Type 0 where
  pub none : last_suffixes (here reader).suffixes ≡ 0

-- the symbols were read from one place to another, in the reader's version, and give these values
pub record HasTaken (symbols : List Symbol) (old new : Reader) (vs : Values symbols) : Type 0 where
  pub bytes : new.bytes.now ≡ old.bytes.now
  pub laid : new.laid.now ≡ old.laid.now
  pub major : new.major ≡ old.major
  pub read : HasRead old.major symbols old.bytes.now old.laid.now old.at old.names vs new.at new.names

-- the symbols were refused
pub record Refuses (symbols : List Symbol) (old : Reader) (fault : ParseFault) : Type 0 where
  pub refused : IsRefused symbols old.bytes.now old.laid.now old.at fault

-- the symbols were read, a line may begin or go on behind them, and so many blocks are open there
pub record Passes (symbols : List Symbol) (old new : Reader) (left : ℕ) (vs : Values symbols) : Type 0 where
  pub taken : HasTaken symbols old new vs
  pub at : StandsAt new
  pub blocks : blocks_at new ≡ left

-- what a reader of the symbols answers that leaves so many blocks open: a value that says what they give, or a refusal of them
abbrev pub Answers : {T : Type 0} (symbols : List Symbol) → (T → Values symbols) → ℕ → Reader → Reader → Result T ParseFault → Type 0
Answers symbols values blocks old new (Ok it) = Passes symbols old new blocks (values it)
Answers symbols values blocks old new (Err fault) = Refuses symbols old fault

-- what a reader of symbols answers that leaves as many blocks open
abbrev pub ReadsAll : {T : Type 0} (symbols : List Symbol) → (T → Values symbols) → Reader → Reader → Result T ParseFault → Type 0
ReadsAll symbols values old new result = Answers symbols values (blocks_at old) old new result

-- what a reader of a rule answers
abbrev pub Reads : (r : Rule) → Reader → Reader → Result (Tree r) ParseFault → Type 0
Reads r old new result = Answers (A r ∷ []) (λ it. (it, tt)) (blocks_at old) old new result

-- and one that reads up to the end of the block
abbrev pub ReadsToEnd : (r : Rule) → Reader → Reader → Result (Tree r) ParseFault → Type 0
ReadsToEnd r old new result = Answers (A r ∷ []) (λ it. (it, tt)) (blocks_at old - 1) old new result

-- a line may begin at the reader's place, where so many blocks are open
abbrev pub InBlocks : ℕ → Reader → Type 0
InBlocks blocks reader = StandsAt reader × (blocks_at reader ≡ blocks)

-- the reader moved behind one part
pub record Steps (old new : Reader) : Type 0 where
  pub bytes : new.bytes.now ≡ old.bytes.now
  pub laid : new.laid.now ≡ old.laid.now
  pub at : new.at ≡ old.at + 1
  pub names : new.names ≡ old.names
  pub brackets : new.brackets ≡ old.brackets
  pub major : new.major ≡ old.major

-- a part's offsets stand in the text
abbrev pub IsInText : List ℕ → Laid → Type 0
IsInText text (Item token) = (token.start ≤ token.end) × (token.end ≤ length text)
IsInText text (LineEnd at) = at ≤ length text
IsInText text (Open at) = at ≤ length text
IsInText text (Close at) = at ≤ length text
IsInText text (End at) = at ≤ length text
