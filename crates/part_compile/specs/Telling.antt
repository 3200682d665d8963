-- What the code of sinks evaluates, and what it shows.
use Rattle.std.specs.Prelude.{◌≡◌, ℕ, true, List, slice_get, Some, Contains}
use Rattle.ground_net.specs.declared.net.Net.{Net}
use Rattle.ground_net.specs.declared.net.NetRegister.{NetRegister}
use Rattle.ground_net.specs.declared.net.CutPart.{CutPart}
use Rattle.ground_net.specs.Cones.{Sink, A_watched, A_register, A_memory}
use Rattle.flat_code.specs.declared.instr.Location.{Location}
use Rattle.flat_code.specs.Fine.{among, slots_of}
use Rattle.code_draft.specs.declared.draft.Draft.{Draft}
use Rattle.code_draft.specs.declared.sources.Source.TheVariants as source
use Rattle.code_draft.specs.declared.sources.Sources.{Sources}
use Rattle.code_emit.specs.Emits.{leaf_source}
use Rattle.code_emit.specs.Spans.{leaf_slots, AreFoundBefore}
use Rattle.code_memories.specs.SinkGroups.{EvaluatesOnly}
use Rattle.code_memories.specs.Groups.{IsMemoryGroup}
use Rattle.code_draft.specs.Pieces.{StandsIn, AddsPieces}
use Rattle.partition_code.specs.Codes.{sinks_of_part}
use Rattle.part_compile.specs.SlotBounds.{sinks_read, sinks_nodes}
use Rattle.part_compile.specs.declared.work.Made.{Made}
use Rattle.part_compile.specs.Groups.{ShowsLeaf, EvaluatesRegister}

-- A watched leaf is shown where it stands, and a register and a memory have their groups of expressions evaluated.
abbrev pub EvaluatesSink : Net → Sources → Sink → Made → Made → Type 0
EvaluatesSink net S (A_watched x) old new = ShowsLeaf S x old new
EvaluatesSink net S (A_register n) old new = EvaluatesRegister net S n old new
EvaluatesSink net S (A_memory m) old new = EvaluatesOnly S (IsMemoryGroup net m) old.draft new.draft × (new.shown ≡ old.shown)

-- In the frame assignments of the part are found, each before a slot, and all of its watched leaves. Registers are found elsewhere.
pub record AreFound (net : Net) (watch : List ℕ) (part : CutPart) (S : Sources) (end : ℕ) : Type 0 where
  pub before : AreFoundBefore S end
  pub assigned : (y k : ℕ) → among (leaf_slots S y) k ≡ true → Contains part.assignments y
  pub registers : (n k : ℕ) (register : NetRegister) → slice_get net.registers n ≡ Some register → among (leaf_slots S register.leaf) k ≡ true → ⊥
  pub watched : (x : ℕ) → Contains (sinks_of_part net watch part) (A_watched x) → (t : Location) × (leaf_source S x ≡ Some (source.Frame t))

-- What was told is pieces, and stands where assignments do.
pub record AreTold (net : Net) (watch : List ℕ) (part : CutPart) (S : Sources) (start : Draft) (made : Made) : Type 0 where
  pub adds : AddsPieces (leaf_slots S) part.assignments (sinks_read net watch part) (sinks_nodes net watch part) start made.draft
  pub shown : (k : ℕ) → among (slots_of made.shown) k ≡ true → StandsIn (leaf_slots S) part.assignments (sinks_read net watch part) k

abbrev pub TellsInPieces : Net → List ℕ → CutPart → Sources → Draft → Made → Type 0
TellsInPieces net watch part S start made = AreFound net watch part S start.slots → AreTold net watch part S start made
