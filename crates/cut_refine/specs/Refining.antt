-- Cuts that no move of one sink improves. The rule is our own: the best move is made while there is one that lowers the greatest cost of
-- a part.
--
-- Where the sinks stand is a list of owners: the number of each sink's part, by the sinks' numbers. What follows is said of any cones, as
-- in the crate that makes the first cut.
use Rattle.std.specs.Prelude.{◌≡◌, ◌≢◌, ◌⊎◌, ℕ, ◌<◌, ◌≤◌, List, [], length, slice_get, slice_index, slice_set, Some}
use Rattle.std.specs.List.{AllZip}
use Rattle.ground_net.specs.declared.net.Ordered.{Ordered}
use Rattle.ground_net.specs.declared.net.Cut.{Cut}
use Rattle.ground_net.specs.declared.net.CutPart.{CutPart}
use Rattle.ground_net.specs.Cones.{sinks}
use Rattle.cone_cutter.specs.Cuts.{Counts, NeededBy, InConeOf, IsCut}
use Rattle.cone_cutter.specs.Rows.{places_of}
use Rattle.cone_cutter.specs.Splits.{IsUnion}
use Rattle.cut_refine.specs.declared.refined.Move.{Move}
use Rattle.cut_refine.specs.declared.refined.Refined.{Refined}

-- The cost of a part: how many assignments its sinks need.
abbrev pub HasCost : (ℕ → ℕ → Type 0) → List ℕ → ℕ → ℕ → Type 0
HasCost cone owners part n = Counts (NeededBy cone (places_of owners part)) n

-- the greatest cost of so many parts
pub record IsGreatest (cone : ℕ → ℕ → Type 0) (workers : ℕ) (owners : List ℕ) (greatest : ℕ) : Type 0 where
  pub most : (part n : ℕ) → part < workers → HasCost cone owners part n → n ≤ greatest
  pub part : ℕ
  pub within : part < workers
  pub reached : HasCost cone owners part greatest

abbrev pub moved : List ℕ → Move → List ℕ
moved owners move = slice_set owners move.sink move.target

-- A move takes one sink to another part, and says the greatest cost then.
pub record IsMove (cone : ℕ → ℕ → Type 0) (workers : ℕ) (owners : List ℕ) (move : Move) : Type 0 where
  pub sink : move.sink < length owners
  pub target : move.target < workers
  pub other : slice_index owners move.sink ≢ move.target
  pub greatest : IsGreatest cone workers (moved owners move) move.greatest

-- the move with the smaller greatest cost goes first, then that of the lower sink, then that to the lower part
abbrev pub GoesBefore : Move → Move → Type 0
GoesBefore a b = (a.greatest < b.greatest) ⊎ ((a.greatest ≡ b.greatest) × ((a.sink < b.sink) ⊎ ((a.sink ≡ b.sink) × (a.target < b.target))))

-- No move lowers the greatest cost.
abbrev pub NoneLowers : (ℕ → ℕ → Type 0) → ℕ → List ℕ → ℕ → Type 0
NoneLowers cone workers owners greatest = (move : Move) → IsMove cone workers owners move → greatest ≤ move.greatest

-- The best move: it lowers the greatest cost, and no other goes before it.
pub record IsBest (cone : ℕ → ℕ → Type 0) (workers : ℕ) (owners : List ℕ) (greatest : ℕ) (move : Move) : Type 0 where
  pub is_move : IsMove cone workers owners move
  pub lowers : move.greatest < greatest
  pub first : (other : Move) → IsMove cone workers owners other → GoesBefore other move → ⊥

-- From owners on the best move is made as long as one lowers the greatest cost; at the end stand these owners, with this greatest cost.
pub data Refines (cone : ℕ → ℕ → Type 0) (workers : ℕ) : List ℕ → List ℕ → ℕ → Type 0 where
  ended : {owners : List ℕ} (greatest : ℕ) → IsGreatest cone workers owners greatest → NoneLowers cone workers owners greatest → Refines cone workers owners owners greatest
  improved : {owners last : List ℕ} (greatest least : ℕ) (move : Move) → IsGreatest cone workers owners greatest → IsBest cone workers owners greatest move
      → Refines cone workers (moved owners move) last least → Refines cone workers owners last least

-- the first part that has the greatest cost
pub record IsFullest (cone : ℕ → ℕ → Type 0) (workers : ℕ) (owners : List ℕ) (greatest part : ℕ) : Type 0 where
  pub within : part < workers
  pub full : HasCost cone owners part greatest
  pub first : (other n : ℕ) → other < part → HasCost cone owners other n → n < greatest

-- the row of a sink: of its moves the one that goes first
pub record IsRow (cone : ℕ → ℕ → Type 0) (workers : ℕ) (owners : List ℕ) (sink : ℕ) (move : Move) : Type 0 where
  pub of_sink : move.sink ≡ sink
  pub is_move : IsMove cone workers owners move
  pub first : (other : Move) → IsMove cone workers owners other → other.sink ≡ sink → GoesBefore other move → ⊥

-- a row for each sink of that part, by rising numbers; none where there is one part
pub data IsTable (cone : ℕ → ℕ → Type 0) (workers : ℕ) (owners : List ℕ) (greatest : ℕ) (table : List Move) : Type 0 where
  of_one : workers ≡ 1 → table ≡ [] → IsTable cone workers owners greatest table
  of_several : 1 < workers → (part : ℕ) → IsFullest cone workers owners greatest part → AllZip (IsRow cone workers owners) (places_of owners part) table → IsTable cone workers owners greatest table

-- the parts have their sinks by these owners
pub record AreOwners (count : ℕ) (parts : List CutPart) (owners : List ℕ) : Type 0 where
  pub long : length owners ≡ count
  pub each : (p : ℕ) (part : CutPart) → slice_get parts p ≡ Some part → part.sinks ≡ places_of owners p
  pub within : (k : ℕ) → k < count → slice_index owners k < length parts

-- The refined cut of a start, by best moves. Each part has exactly the union of its sinks' cones; what all parts need stays.
pub record IsRefined (ordered : Ordered) (watch : List ℕ) (start : Cut) (refined : Refined) : Type 0 where
  pub first : List ℕ
  pub firsts : AreOwners (length (sinks ordered.net watch)) start.parts first
  pub owners : List ℕ
  pub refines : Refines (InConeOf ordered.net watch) (length start.parts) first owners refined.greatest
  pub count : length refined.cut.parts ≡ length start.parts
  pub of_owners : AreOwners (length (sinks ordered.net watch)) refined.cut.parts owners
  pub unions : (p : ℕ) (part : CutPart) → slice_get refined.cut.parts p ≡ Some part → IsUnion ordered.net watch ordered.sequence part
  pub needed : refined.cut.needed ≡ start.needed
  pub table : IsTable (InConeOf ordered.net watch) (length start.parts) owners refined.greatest refined.table

-- The refined cut into so many parts is that of the cut of the rule.
pub record IsRefinedOf (ordered : Ordered) (watch : List ℕ) (workers : ℕ) (refined : Refined) : Type 0 where
  pub start : Cut
  pub starts : IsCut ordered watch workers start
  pub refines : IsRefined ordered watch start refined

pub record IsRefinedCut (ordered : Ordered) (watch : List ℕ) (workers : ℕ) (cut : Cut) : Type 0 where
  pub start : Cut
  pub starts : IsCut ordered watch workers start
  pub refined : Refined
  pub refines : IsRefined ordered watch start refined
  pub same : cut ≡ refined.cut
