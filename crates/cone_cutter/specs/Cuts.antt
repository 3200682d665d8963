-- Cuts of a net into partitions, in which what several sinks need is evaluated several times (Wang and Beamer, "RepCut:
-- Superlinear Parallel RTL Simulation with Replication-Aided Partitioning").
--
-- Which sinks stand together is a rule of our own: the largest cone first, each to the partition that would then have the fewest
-- assignments. A sink is named by its number, from 0 in the order of the sinks. What follows is said of any cones: cone k x says
-- that the sink of number k needs the assignment x.
use Rattle.std.specs.Prelude.{◌≡◌, ◌≢◌, ◌⊎◌, ◌↔◌, ℕ, ◌<◌, ◌≤◌, ◌==◌, Bool, IsTrue, List, ◌∷◌, length, map, filter, take, slice_get, slice_index, Some, Contains}
use Rattle.std.specs.List.{range_with_len}
use Rattle.ground_net.specs.declared.net.Net.{Net}
use Rattle.ground_net.specs.declared.net.Ordered.{Ordered}
use Rattle.ground_net.specs.declared.net.Cut.{Cut}
use Rattle.ground_net.specs.declared.net.CutPart.{CutPart}
use Rattle.ground_net.specs.Cones.{Sink, sinks, InCone}
use Rattle.cone_cutter.specs.declared.placing.Placing.{Placing}

-- The list has the numbers of which this is true, each once, and no others.
pub record Lists (is : ℕ → Type 0) (s : List ℕ) : Type 0 where
  pub only : (x : ℕ) → Contains s x → is x
  pub all : (x : ℕ) → is x → Contains s x
  pub once : (j k : ℕ) → j < k → k < length s → slice_index s j ≢ slice_index s k

-- It is true of so many numbers.
pub record Counts (is : ℕ → Type 0) (n : ℕ) : Type 0 where
  pub numbers : List ℕ
  pub listed : Lists is numbers
  pub count : length numbers ≡ n

-- The numbers of a list of which this is true, in the order in which they stand there.
pub record Keeps (is : ℕ → Type 0) (s kept : List ℕ) : Type 0 where
  pub test : ℕ → Bool
  pub tests : (x : ℕ) → Contains s x → IsTrue (test x) ↔ is x
  pub same : kept ≡ filter test s

-- One of these sinks needs the assignment.
pub record NeededBy (cone : ℕ → ℕ → Type 0) (among : List ℕ) (x : ℕ) : Type 0 where
  pub sink : ℕ
  pub there : Contains among sink
  pub inside : cone sink x

-- the sinks of placings, and those that were placed in a partition
abbrev pub placed : List Placing → List ℕ
placed = map (λ placing. placing.sink)

abbrev pub placed_in : ℕ → List Placing → List ℕ
placed_in part placings = placed (filter (λ placing. placing.part == part) placings)

-- The larger cone goes first, and of two as large the sink of the lower number.
abbrev pub GoesFirst : (ℕ → ℕ) → ℕ → ℕ → Type 0
GoesFirst size a b = (size b < size a) ⊎ ((size a ≡ size b) × (a < b))

-- A sink is placed where its partition would then have the fewest assignments, and on a tie in the one of the lowest number. The
-- costs are the numbers of assignments that each partition would have with the sink.
pub record IsLeast (cone : ℕ → ℕ → Type 0) (workers : ℕ) (earlier : List Placing) (next : Placing) : Type 0 where
  pub cost : ℕ → ℕ
  pub counts : (p : ℕ) → p < workers → Counts (NeededBy cone (next.sink ∷ placed_in p earlier)) (cost p)
  pub within : next.part < workers
  pub least : (p : ℕ) → p < workers → cost next.part ≤ cost p
  pub lowest : (p : ℕ) → p < next.part → cost next.part < cost p

-- All sinks were placed, so many, one after the other, each in the partition that was then the least choice.
pub record ArePlaced (cone : ℕ → ℕ → Type 0) (count workers : ℕ) (placings : List Placing) : Type 0 where
  pub size : ℕ → ℕ
  pub sizes : (k : ℕ) → k < count → Counts (cone k) (size k)
  pub only : (k : ℕ) → Contains (placed placings) k → k < count
  pub all : (k : ℕ) → k < count → Contains (placed placings) k
  pub in_order : (i j : ℕ) → i < j → j < length placings → GoesFirst size (slice_index (placed placings) i) (slice_index (placed placings) j)
  pub choices : (i : ℕ) (next : Placing) → slice_get placings i ≡ Some next → IsLeast cone workers (take i placings) next

-- The assignment is in the cone of the sink of this number.
pub record InConeOf (net : Net) (watch : List ℕ) (k x : ℕ) : Type 0 where
  pub sink : Sink
  pub there : slice_get (sinks net watch) k ≡ Some sink
  pub inside : InCone net sink x

abbrev pub all_sinks : Net → List ℕ → List ℕ
all_sinks net watch = range_with_len 0 (length (sinks net watch))

-- A partition has the sinks that were placed there, by rising numbers, and exactly the assignments that these need, each once and
-- in the order of the sequence.
pub record IsPart (net : Net) (watch sequence here : List ℕ) (part : CutPart) : Type 0 where
  pub of_sinks : Keeps (Contains here) (all_sinks net watch) part.sinks
  pub exactly : Lists (NeededBy (InConeOf net watch) part.sinks) part.assignments
  pub in_order : Keeps (NeededBy (InConeOf net watch) part.sinks) sequence part.assignments

-- The cut by the rule, into so many partitions. Needed are the assignments of all cones, each counted once.
pub record IsCut (ordered : Ordered) (watch : List ℕ) (workers : ℕ) (it : Cut) : Type 0 where
  pub placings : List Placing
  pub are_placed : ArePlaced (InConeOf ordered.net watch) (length (sinks ordered.net watch)) workers placings
  pub count : length it.parts ≡ workers
  pub each : (p : ℕ) (part : CutPart) → slice_get it.parts p ≡ Some part → IsPart ordered.net watch ordered.sequence (placed_in p placings) part
  pub all_needed : Counts (NeededBy (InConeOf ordered.net watch) (all_sinks ordered.net watch)) it.needed
