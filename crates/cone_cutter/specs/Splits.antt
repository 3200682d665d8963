-- What a cut is to the code that is made of it, whatever rule placed the sinks.
use Rattle.std.specs.Prelude.{◌≡◌, ℕ, ◌<◌, List, length, slice_get, slice_index, Some, Contains}
use Rattle.ground_net.specs.declared.net.Net.{Net}
use Rattle.ground_net.specs.declared.net.Ordered.{Ordered}
use Rattle.ground_net.specs.declared.net.CutPart.{CutPart}
use Rattle.ground_net.specs.Cones.{sinks}
use Rattle.ground_net.specs.Reads.{Reads, IsAssigned}
use Rattle.cone_cutter.specs.Cuts.{Lists, Keeps, NeededBy, InConeOf}

-- The sink stands in one partition, and in no other.
pub record StandsOnce (parts : List CutPart) (k : ℕ) : Type 0 where
  pub number : ℕ
  pub part : CutPart
  pub there : slice_get parts number ≡ Some part
  pub here : Contains part.sinks k
  pub alone : (other : ℕ) (it : CutPart) → slice_get parts other ≡ Some it → Contains it.sinks k → other ≡ number

-- Rising numbers.
abbrev pub Rises : List ℕ → Type 0
Rises s = (j k : ℕ) → j < k → k < length s → slice_index s j < slice_index s k

-- A partition's sinks are sinks of the net, by rising numbers, and its assignments are exactly the union of their cones, each once
-- and in the order of the sequence.
pub record IsUnion (net : Net) (watch sequence : List ℕ) (part : CutPart) : Type 0 where
  pub only : (k : ℕ) → Contains part.sinks k → k < length (sinks net watch)
  pub rises : Rises part.sinks
  pub exactly : Lists (NeededBy (InConeOf net watch) part.sinks) part.assignments
  pub in_order : Keeps (NeededBy (InConeOf net watch) part.sinks) sequence part.assignments

-- Each sink stands in one partition, and each partition has exactly the union of its sinks' cones.
pub record IsSplit (ordered : Ordered) (watch : List ℕ) (parts : List CutPart) : Type 0 where
  pub once : (k : ℕ) → k < length (sinks ordered.net watch) → StandsOnce parts k
  pub unions : (p : ℕ) (part : CutPart) → slice_get parts p ≡ Some part → IsUnion ordered.net watch ordered.sequence part

-- What an assignment of these reads is also one of them, where it is an assignment.
abbrev pub IsClosed : Net → List ℕ → Type 0
IsClosed net these = (x y : ℕ) → Contains these x → Reads net x y → IsAssigned net.leaves y → Contains these y

-- Each of these that reads another one stands behind it.
abbrev pub StandBehindReads : Net → List ℕ → Type 0
StandBehindReads net these = (k w : ℕ) → k < length these → Reads net (slice_index these k) w → IsAssigned net.leaves w → (j : ℕ) × (j < k) × (slice_index these j ≡ w)
