-- What refining goes by: where the sinks stand, what each part holds, and what moves of the sinks of one part come to.
use Rattle.std.specs.Prelude.{◌≡◌, ◌≢◌, ◌↔◌, ℕ, ◌+◌, ◌-◌, ◌^◌, ◌<◌, ◌≤◌, ◌==◌, true, false, IsTrue, List, length, count_by, slice_get, slice_index, slice_set, Contains, Some, max}
use Rattle.ground_net.specs.declared.net.CutPart.{CutPart}
use Rattle.cone_cutter.specs.Cuts.{Counts, Lists, NeededBy}
use Rattle.cone_cutter.specs.Rows.{AreNetRows, reads_in, needs_in, ConeAt, places_of}
use Rattle.cone_cutter.specs.Loads.{holds, cost_with, Gets}
use Rattle.cone_cutter.specs.declared.rows.NetRows.{NetRows}
use Rattle.cut_refine.specs.declared.walker.Walker.{Walker}
use Rattle.cut_refine.specs.declared.standing.Standing.{Standing}
use Rattle.cut_refine.specs.declared.fullest.Fullest.{Fullest}
use Rattle.cut_refine.specs.declared.targets.Target.{Target}
use Rattle.cut_refine.specs.declared.refined.Move.{Move}
use Rattle.cut_refine.specs.declared.look.Look.{Look}
use Rattle.cut_refine.specs.Refining.{HasCost, IsGreatest, NoneLowers, IsBest, Refines, IsTable, AreOwners}

-- the cone of the sink of a number
abbrev pub cone_of : NetRows → ℕ → ℕ → Type 0
cone_of rows = ConeAt (reads_in rows) (needs_in rows)

-- rows of a net with few leaves and sinks
pub record AreConeRows (rows : NetRows) : Type 0 where
  pub few : rows.leaves < 2 ^ 32
  pub few_sinks : length rows.needed.items < 2 ^ 32
  pub are : AreNetRows rows

-- each of so many cones has a size
abbrev pub AreSized : (ℕ → ℕ → Type 0) → ℕ → Type 0
AreSized cone count = (k : ℕ) → k < count → (n : ℕ) × Counts (cone k) n

-- no number has that of a later walk
pub record IsReady (rows : NetRows) (walker : Walker) : Type 0 where
  pub long : length walker.stamps.items ≡ length rows.reads.items
  pub early : (v : ℕ) → slice_index walker.stamps.items v ≤ walker.turn

-- one more walk, of the cone of this sink
pub record Walks (rows : NetRows) (sink : ℕ) (old new : Walker) : Type 0 where
  pub ready : IsReady rows new
  pub turn : new.turn ≡ old.turn + 1
  pub listed : Lists (cone_of rows sink) new.found.items
  pub below : (x : ℕ) → Contains new.found.items x → x < rows.leaves

-- one of these sinks that needs the leaf
abbrev pub NeedsIt : (ℕ → ℕ → Type 0) → List ℕ → ℕ → ℕ → Type 0
NeedsIt cone among x k = Contains among k × cone k x

-- for each leaf how many of these sinks need it
pub record AreCounts (cone : ℕ → ℕ → Type 0) (leaves : ℕ) (among counts : List ℕ) : Type 0 where
  pub long : length counts ≡ leaves
  pub each : (x : ℕ) → x < leaves → Counts (NeedsIt cone among x) (slice_index counts x)

-- one more for each leaf of a cone
pub record Raises (cone old new : List ℕ) : Type 0 where
  pub long : length new ≡ length old
  pub got : (x : ℕ) → Contains cone x → slice_index new x ≡ slice_index old x + 1
  pub others : (x : ℕ) → (Contains cone x → ⊥) → slice_index new x ≡ slice_index old x

-- By these owners: what each part holds, and how much it is.
pub record IsStanding (cone : ℕ → ℕ → Type 0) (leaves workers : ℕ) (owners masks costs : List ℕ) : Type 0 where
  pub masks_long : length masks ≡ leaves
  pub costs_long : length costs ≡ workers
  pub within : (k : ℕ) → k < length owners → slice_index owners k < workers
  pub held : (p x : ℕ) → p < workers → x < leaves → IsTrue (holds masks p x) ↔ NeededBy cone (places_of owners p) x
  pub counts : (p : ℕ) → p < workers → HasCost cone owners p (slice_index costs p)

pub record Stands (rows : NetRows) (standing : Standing) : Type 0 where
  pub long : length standing.owners.items ≡ length rows.needed.items
  pub some : 0 < length standing.costs.items
  pub few : length standing.costs.items ≤ 64
  pub is : IsStanding (cone_of rows) (rows.leaves) (length standing.costs.items) standing.owners.items standing.masks.items standing.costs.items

-- the sinks get an owner, and others keep theirs
pub record Owns (part : ℕ) (sinks old new : List ℕ) : Type 0 where
  pub long : length new ≡ length old
  pub got : (k : ℕ) → Contains sinks k → slice_index new k ≡ part
  pub others : (k : ℕ) → (Contains sinks k → ⊥) → slice_index new k ≡ slice_index old k

-- The first so many parts have their sinks and assignments in the tables, and later ones nothing.
pub record AreParted (count : ℕ) (parts : List CutPart) (owners masks : List ℕ) : Type 0 where
  pub owned : (p : ℕ) (part : CutPart) → p < count → slice_get parts p ≡ Some part → (k : ℕ) → Contains part.sinks k → slice_index owners k ≡ p
  pub holding : (p : ℕ) (part : CutPart) → p < count → slice_get parts p ≡ Some part → (x : ℕ) → Contains part.assignments x → holds masks p x ≡ true
  pub held : (p : ℕ) (part : CutPart) → p < count → slice_get parts p ≡ Some part → (x : ℕ) → holds masks p x ≡ true → Contains part.assignments x
  pub none : (p x : ℕ) → count ≤ p → holds masks p x ≡ false

-- no sink stands in two parts
abbrev pub AreApart : List CutPart → Type 0
AreApart parts = (p q k : ℕ) (part other : CutPart) → slice_get parts p ≡ Some part → slice_get parts q ≡ Some other → Contains part.sinks k → Contains other.sinks k → p ≡ q

-- A part loses those leaves of a cone that one sink alone needs, and no other part changes.
pub record Loses (part : ℕ) (cone counts old new : List ℕ) : Type 0 where
  pub long : length new ≡ length old
  pub lost : (x : ℕ) → Contains cone x → slice_index counts x ≡ 1 → holds new part x ≡ false
  pub kept : (x : ℕ) → (Contains cone x → slice_index counts x ≢ 1) → holds new part x ≡ holds old part x
  pub others : (p x : ℕ) → p < 64 → p ≢ part → holds new p x ≡ holds old p x

-- how many leaves of a cone one sink alone needs, and the cost of a part without them
abbrev pub lone : List ℕ → List ℕ → ℕ
lone cone counts = count_by (λ x. slice_index counts x == 1) cone

abbrev pub cost_without : List ℕ → List ℕ → List ℕ → ℕ → ℕ
cost_without costs cone counts p = slice_index costs p - lone cone counts

-- a sink with this cone leaves a part for another one
pub record Leaves (part : ℕ) (cone counts : List ℕ) (move : Move) (old new : Standing) : Type 0 where
  pub between : List ℕ
  pub loses : Loses part cone counts old.masks.items between
  pub gets : Gets move.target cone between new.masks.items
  pub owners : new.owners.items ≡ slice_set old.owners.items move.sink move.target
  pub costs : new.costs.items ≡ slice_set (slice_set old.costs.items part (cost_without old.costs.items cone counts part)) move.target (cost_with old.masks.items old.costs.items cone move.target)

-- the first place with the greatest number
pub record IsFirstMost (costs : List ℕ) (part : ℕ) : Type 0 where
  pub within : part < length costs
  pub most : (p : ℕ) → p < length costs → slice_index costs p ≤ slice_index costs part
  pub first : (p : ℕ) → p < part → slice_index costs p < slice_index costs part

-- of the other places one with the greatest number
pub record IsMostBut (costs : List ℕ) (part other : ℕ) : Type 0 where
  pub within : other < length costs
  pub apart : other ≢ part
  pub fits : (p : ℕ) → p < length costs → p ≢ part → slice_index costs p ≤ slice_index costs other

-- the place with the least number but for one place, the first one on a tie
pub record IsTarget (cost : ℕ → ℕ) (count part : ℕ) (target : Target) : Type 0 where
  pub within : target.part < count
  pub other : target.part ≢ part
  pub is : cost target.part ≡ target.greatest
  pub least : (p : ℕ) → p < count → p ≢ part → target.greatest ≤ cost p
  pub lowest : (p : ℕ) → p < target.part → p ≢ part → target.greatest < cost p

-- the greatest cost of a part once the sink with this cone stands in another one
abbrev pub greatest_with : Standing → List ℕ → List ℕ → ℕ → ℕ → ℕ → ℕ
greatest_with standing cone counts part most p = max (max (cost_without standing.costs.items cone counts part) most) (cost_with standing.masks.items standing.costs.items cone p)

-- The first part with the greatest cost, its sinks, and how many of them need each leaf.
pub record IsFullestPart (rows : NetRows) (standing : Standing) (full : Fullest) : Type 0 where
  pub part : IsFirstMost standing.costs.items full.part
  pub sinks : full.sinks.items ≡ places_of standing.owners.items full.part
  pub counts : AreCounts (cone_of rows) (rows.leaves) (places_of standing.owners.items full.part) full.counts.items

-- the first of the rows with the least greatest cost
pub record IsFirstLeast (table : List Move) (best : Move) : Type 0 where
  pub at : ℕ
  pub there : slice_get table at ≡ Some best
  pub least : (i : ℕ) (move : Move) → slice_get table i ≡ Some move → best.greatest ≤ move.greatest
  pub first : (i : ℕ) (move : Move) → i < at → slice_get table i ≡ Some move → best.greatest < move.greatest

-- that row where it lowers the greatest cost, and none else
pub record IsChosen (table : List Move) (greatest : ℕ) (best : Move) : Type 0 where
  pub chosen : best.greatest < greatest → IsFirstLeast table best
  pub none : greatest ≤ best.greatest → (i : ℕ) (move : Move) → slice_get table i ≡ Some move → greatest ≤ move.greatest

-- What is seen of moves: the fullest part, the table, and the best move where one lowers the greatest cost.
pub record IsLook (rows : NetRows) (standing : Standing) (look : Look) : Type 0 where
  pub full : IsFullestPart rows standing look.full
  pub cost : slice_index standing.costs.items look.full.part ≡ look.greatest
  pub greatest : IsGreatest (cone_of rows) (length standing.costs.items) standing.owners.items look.greatest
  pub table : IsTable (cone_of rows) (length standing.costs.items) standing.owners.items look.greatest look.table
  pub none : look.greatest ≤ look.best.greatest → NoneLowers (cone_of rows) (length standing.costs.items) standing.owners.items look.greatest
  pub best : look.best.greatest < look.greatest → IsBest (cone_of rows) (length standing.costs.items) standing.owners.items look.greatest look.best
  pub from : look.best.greatest < look.greatest → slice_index standing.owners.items look.best.sink ≡ look.full.part

-- What was done so far: refining from here on is refining from the start on, where the sinks stood as in these parts.
pub record IsUnderWay (rows : NetRows) (count : ℕ) (parts : List CutPart) (owners : List ℕ) : Type 0 where
  pub first : List ℕ
  pub firsts : AreOwners count parts first
  pub refines : (last : List ℕ) (least : ℕ) → Refines (cone_of rows) (length parts) owners last least → Refines (cone_of rows) (length parts) first last least
