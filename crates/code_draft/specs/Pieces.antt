-- Code that goes on by pieces, each with slots of its own. Between them nothing is read but the slots in which values of leaves stand.
use Rattle.std.specs.Prelude.{◌≡◌, ℕ, ◌*◌, ◌<◌, ◌≤◌, true, ◌⊎◌, List, [], ◌∷◌, ◌++◌, flat_map, length, take, slice_get, Some, Contains, All}
use Rattle.flat_code.specs.declared.instr.Instr.{Instr}
use Rattle.flat_code.specs.declared.instr.Port.{Port}
use Rattle.flat_code.specs.declared.instr.Wide.{Wide}
use Rattle.flat_code.specs.Fine.{among, reads_of, writes_of}
use Rattle.code_draft.specs.declared.draft.Draft.{Draft}
use Rattle.code_draft.specs.Segments.{GoesOn, Stretch}

-- Instructions with their own slots: from the first one on, and before the last one.
pub record Piece : Type 0 where
  pub instrs : List Instr
  pub first : ℕ
  pub last : ℕ

abbrev pub instrs_of : List Piece → List Instr
instrs_of pieces = flat_map (λ p. p.instrs) pieces

-- the slots of each come behind those of the one before
abbrev pub Follow : ℕ → List Piece → Type 0
Follow from [] = Unit {0}
Follow from (p ∷ further) = (from ≤ p.first) × (p.first ≤ p.last) × Follow p.last further

-- where the slots of pieces end
abbrev pub end_of : ℕ → List Piece → ℕ
end_of from [] = from
end_of from (p ∷ further) = end_of p.last further

-- A slot in which the value of an earlier leaf stands that may be read.
pub record StandsIn (locations : ℕ → List ℕ) (earlier read : List ℕ) (k : ℕ) : Type 0 where
  pub leaf : ℕ
  pub before : Contains earlier leaf
  pub wanted : Contains read leaf
  pub there : among (locations leaf) k ≡ true

-- A piece reads the slots of those earlier leaves that it may read. What is kept of it stands in own slots, or in such ones. Of its own slots two for
-- each of so many nodes suffice, where behind it only what is kept is read.
pub record IsPiece (ports : List Port) (wides : List Wide) (locations : ℕ → List ℕ) (earlier read kept : List ℕ) (count : ℕ) (p : Piece) : Type 0 where
  pub outer : List ℕ
  pub outside : (k : ℕ) → among outer k ≡ true → StandsIn locations earlier read k
  pub there : (k : ℕ) → among kept k ≡ true → ((p.first ≤ k) × (k < p.last)) ⊎ (among outer k ≡ true)
  pub most : ℕ
  pub few : most ≤ 2 * count
  pub stretch : Stretch p.first p.last outer kept most ports wides p.instrs

-- Code that goes on by these pieces, whose slots are all that are new.
pub record GoesBy (old new : Draft) (pieces : List Piece) : Type 0 where
  pub is : new.instrs ≡ old.instrs ++ instrs_of pieces
  pub tables : GoesOn old new.ports new.wides
  pub follow : Follow old.slots pieces
  pub ends : end_of old.slots pieces ≡ new.slots

-- A piece with one of these numbers of nodes, which keeps nothing.
pub record IsAside (ports : List Port) (wides : List Wide) (locations : ℕ → List ℕ) (earlier read counts : List ℕ) (p : Piece) : Type 0 where
  pub count : ℕ
  pub counted : Contains counts count
  pub piece : IsPiece ports wides locations earlier read [] count p

-- Code that goes on by such pieces, whatever comes into the tables behind.
pub record AddsPieces (locations : ℕ → List ℕ) (earlier read counts : List ℕ) (old new : Draft) : Type 0 where
  pub pieces : List Piece
  pub goes : GoesBy old new pieces
  pub each : (ports : List Port) (wides : List Wide) → GoesOn new ports wides → (p : Piece) → Contains pieces p → IsAside ports wides locations earlier read counts p

-- Code that goes on by a piece for each leaf in turn: it reads the slots of some of the leaves before it, and keeps the leaf's.
pub record AssignsPieces (locations reads : ℕ → List ℕ) (counts : ℕ → ℕ) (leaves : List ℕ) (old new : Draft) : Type 0 where
  pub pieces : List Piece
  pub goes : GoesBy old new pieces
  pub counted : length pieces ≡ length leaves
  pub each : (ports : List Port) (wides : List Wide) → GoesOn new ports wides → (k x : ℕ) (p : Piece) → slice_get leaves k ≡ Some x → slice_get pieces k ≡ Some p
      → IsPiece ports wides locations (take k leaves) (reads x) (locations x) (counts x) p

-- An instruction that writes nothing, and reads no other slots than these.
pub record IsReader (ports : List Port) (wides : List Wide) (slots : List ℕ) (i : Instr) : Type 0 where
  pub quiet : (k : ℕ) → among (writes_of wides i) k ≡ true → ⊥
  pub reads : (k : ℕ) → among (reads_of ports wides i) k ≡ true → among slots k ≡ true

-- Code that goes on by such instructions, and takes no slots.
pub record OnlyReads (old new : Draft) (slots : List ℕ) : Type 0 where
  pub instrs : List Instr
  pub is : new.instrs ≡ old.instrs ++ instrs
  pub tables : GoesOn old new.ports new.wides
  pub same : new.slots ≡ old.slots
  pub each : (ports : List Port) (wides : List Wide) → GoesOn new ports wides → All (IsReader ports wides slots) instrs
