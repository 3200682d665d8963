-- The code of an expression reads the slots of the leaves that it mentions and its own, and at most two of its own are live at once for each of its tips.
use Rattle.std.specs.Prelude.{◌≡◌, ℕ, ◌*◌, ◌<◌, ◌≤◌, nat_le, Bool, true, List, [], length, flat_map, sum_by, Option, Some, None, ◌∷◌}
use Rattle.std.specs.List.{list_all}
use Rattle.ground_net.specs.declared.ground.Ground.{Ground}
use Rattle.ground_net.specs.declared.ground.Ground.TheVariants.{Leaf}
use Rattle.ground_net.specs.Grounds.{mentions}
use Rattle.flat_code.specs.declared.instr.Location.{Location}
use Rattle.flat_code.specs.Fine.{among, location_slots, slots_of}
use Rattle.code_draft.specs.declared.draft.Draft.{Draft}
use Rattle.code_draft.specs.Segments.{Segment}
use Rattle.code_draft.specs.declared.sources.Source.{Source}
use Rattle.code_draft.specs.declared.sources.Source.TheVariants as source
use Rattle.code_draft.specs.declared.sources.Sources.{Sources}
use Rattle.code_emit.specs.Emits.{leaf_source}
use Rattle.code_emit.specs.Counts.{tips}

-- the slots of a source
abbrev pub source_slots : Source → List ℕ
source_slots (source.Word k) = []
source_slots (source.Input k) = []
source_slots (source.Frame s) = location_slots s
source_slots (source.Constant c) = []

abbrev pub found_slots : Option Source → List ℕ
found_slots (Some src) = source_slots src
found_slots None = []

-- the slots where a leaf is found
abbrev pub leaf_slots : Sources → ℕ → List ℕ
leaf_slots S x = found_slots (leaf_source S x)

-- the slots of the leaves that an expression mentions
abbrev pub ground_slots : Sources → Ground → List ℕ
ground_slots S g = flat_map (leaf_slots S) (mentions g)

-- Leaves are found in slots before this one.
abbrev pub AreFoundBefore : Sources → ℕ → Type 0
AreFoundBefore S n = (x k : ℕ) → among (leaf_slots S x) k ≡ true → k < n

-- What the code of an expression reads and keeps.
abbrev pub Spans : Sources → Ground → Draft → Draft → Location → Type 0
Spans S g old new s = AreFoundBefore S old.slots → Segment old new (ground_slots S g) (location_slots s) (2 * tips g)

-- That of expressions, in order, keeps the slots of all.
abbrev pub SpansAll : Sources → List Ground → Draft → Draft → List Location → Type 0
SpansAll S gs old new ss = AreFoundBefore S old.slots → Segment old new (flat_map (ground_slots S) gs) (slots_of ss) (2 * sum_by tips gs)

-- Code that goes on by a segment for each of these groups of expressions, in order, that evaluates them and keeps nothing.
abbrev pub Evaluates : Sources → List (List Ground) → Draft → Draft → Type 0
Evaluates S [] old new = new ≡ old
Evaluates S (gs ∷ groups) old new = (mid : Draft) × Segment old mid (flat_map (ground_slots S) gs) [] (2 * sum_by tips gs) × Evaluates S groups mid new

abbrev pub EvaluatesAll : Sources → List (List Ground) → Draft → Draft → Type 0
EvaluatesAll S groups old new = AreFoundBefore S old.slots → Evaluates S groups old new

-- A leaf that is found in the frame stands there, and needs no code.
abbrev pub StandsThere : Sources → Ground → Draft → Draft → Location → Type 0
StandsThere S g old new s = (x : ℕ) (t : Location) → g ≡ Leaf x → leaf_source S x ≡ Some (source.Frame t) → (s ≡ t) × (new ≡ old)

-- slots before this one
abbrev pub ComeBefore : ℕ → List ℕ → Type 0
ComeBefore n xs = (k : ℕ) → among xs k ≡ true → k < n

-- What is computed of some locations' values, behind code that keeps their slots: where that leaves two slots live for each of them, no more are live.
abbrev pub Follows : List Location → Draft → Draft → Location → Type 0
Follows ss old new s = (start : Draft) (outer : List ℕ) (n : ℕ) → ComeBefore start.slots outer → 2 * length ss ≤ n → Segment start old outer (slots_of ss) n → Segment start new outer (location_slots s) n

-- each of at most 64 bits
abbrev pub are_words : List Location → Bool
are_words locations = list_all (λ location. nat_le location.width 64) locations
