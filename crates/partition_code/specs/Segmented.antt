-- The code of assignments in turn: that of each is a segment, and then its leaf is found at the location of the value.
use Rattle.std.specs.Prelude.{◌≡◌, ℕ, ◌*◌, List, [], ◌∷◌, slice_set, Option, Some}
use Rattle.ground_net.specs.declared.ground.Ground.{Ground}
use Rattle.flat_code.specs.declared.instr.Location.{Location}
use Rattle.flat_code.specs.Fine.{location_slots}
use Rattle.code_draft.specs.declared.draft.Draft.{Draft}
use Rattle.code_draft.specs.Segments.{Segment}
use Rattle.code_draft.specs.declared.sources.Source.TheVariants as source
use Rattle.code_draft.specs.declared.sources.Sources.{Sources}
use Rattle.code_emit.specs.Counts.{tips}
use Rattle.code_emit.specs.Spans.{ground_slots, AreFoundBefore}
use Rattle.partition_code.specs.Sequences.{driver_in}

-- the sources once the leaf of this number is found at a location of the frame
abbrev pub with_frame : Sources → ℕ → Location → Sources
with_frame S x s = record { leaves = slice_set S.leaves x (Some (source.Frame s)); memories = S.memories }

-- Code that goes on by a segment for each of these leaves, in order, over the sources that the ones before it leave.
abbrev pub InSegments : List (Option Ground) → List ℕ → Sources → Draft → Sources → Draft → Type 0
InSegments drivers [] S old T new = (T ≡ S) × (new ≡ old)
InSegments drivers (x ∷ xs) S old T new =
    (g : Ground) × (s : Location) × (mid : Draft) × (driver_in drivers x ≡ Some g) × Segment old mid (ground_slots S g) (location_slots s) (2 * tips g) × InSegments drivers xs (with_frame S x s) mid T new

-- It does, and leaves are found in slots that are there, where they were so before.
abbrev pub AreSegments : List (Option Ground) → List ℕ → Sources → Draft → Sources → Draft → Type 0
AreSegments drivers xs S old T new = AreFoundBefore S old.slots → InSegments drivers xs S old T new × AreFoundBefore T new.slots
