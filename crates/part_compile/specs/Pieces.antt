-- The code of a part as pieces, each with slots of its own: one for each assignment of the part, in their order, and then those of its
-- sinks.
use Rattle.std.specs.Prelude.{◌≡◌, ℕ, ◌≤◌, true, List, [], ◌∷◌, ◌++◌, length, take, slice_get, Some, Contains, sum_by}
use Rattle.ground_net.specs.declared.net.Net.{Net}
use Rattle.ground_net.specs.declared.net.CutPart.{CutPart}
use Rattle.ground_net.specs.Reads.{direct_reads, driver_of}
use Rattle.flat_code.specs.declared.code.Code.{Code}
use Rattle.flat_code.specs.Fine.{among, slots_of}
use Rattle.ground_net.specs.declared.ground.Ground.{Ground}
use Rattle.ground_net.specs.Grounds.{mentions}
use Rattle.code_draft.specs.declared.sources.Sources.{Sources}
use Rattle.code_emit.specs.Counts.{tips}
use Rattle.code_emit.specs.Spans.{leaf_slots}
use Rattle.code_draft.specs.Pieces.{Piece, Follow, end_of, instrs_of, StandsIn, IsPiece, IsAside}
use Rattle.part_compile.specs.SlotBounds.{sinks_read, assignment_nodes, sinks_nodes}

-- no leaf stands twice
abbrev pub Once : List ℕ → Type 0
Once [] = Unit {0}
Once (x ∷ xs) = (Contains xs x → ⊥) × Once xs

-- A group of expressions has no more tips than one of these numbers, and mentions no leaves in the frame but these.
pub record GroupFits (S : Sources) (read counts : List ℕ) (gs : List Ground) : Type 0 where
  pub count : ℕ
  pub counted : Contains counts count
  pub few : sum_by tips gs ≤ count
  pub reads : (g : Ground) (y k : ℕ) → Contains gs g → Contains (mentions g) y → among (leaf_slots S y) k ≡ true → Contains read y

-- Each assignment of a part has a driver.
abbrev pub HasDrivers : Net → CutPart → Type 0
HasDrivers net part = (x : ℕ) → Contains part.assignments x → (driver : Ground) × (driver_of net x ≡ Some driver)

-- The code of an assignment evaluates its driver, and keeps the value.
abbrev pub IsAssigning : Net → Code → (ℕ → List ℕ) → List ℕ → ℕ → Piece → Type 0
IsAssigning net code locations earlier x p = IsPiece code.ports code.wides locations earlier (direct_reads net x) (locations x) (assignment_nodes net x) p

-- A piece of the code of sinks evaluates something of a sink when all assignments have their code.
abbrev pub IsTelling : Net → List ℕ → CutPart → Code → (ℕ → List ℕ) → Piece → Type 0
IsTelling net watch part code locations p = IsAside code.ports code.wides locations part.assignments (sinks_read net watch part) (sinks_nodes net watch part) p

-- The code of a part is one piece for each assignment, whose value stands in at most two slots, and then pieces for what its sinks evaluate. It has no
-- slots but theirs, and shows what stands in the slots of assignments.
pub record InPieces (net : Net) (watch : List ℕ) (part : CutPart) (code : Code) : Type 0 where
  pub locations : ℕ → List ℕ
  pub two : (x : ℕ) → length (locations x) ≤ 2
  pub assigning : List Piece
  pub telling : List Piece
  pub is : code.instrs ≡ instrs_of (assigning ++ telling)
  pub follow : Follow 0 (assigning ++ telling)
  pub ends : end_of 0 (assigning ++ telling) ≡ code.slots
  pub counted : length assigning ≡ length part.assignments
  pub assigned : (k x : ℕ) (p : Piece) → slice_get part.assignments k ≡ Some x → slice_get assigning k ≡ Some p → IsAssigning net code locations (take k part.assignments) x p
  pub told : (p : Piece) → Contains telling p → IsTelling net watch part code locations p
  pub shown : (k : ℕ) → among (slots_of code.shown) k ≡ true → StandsIn locations part.assignments (sinks_read net watch part) k
