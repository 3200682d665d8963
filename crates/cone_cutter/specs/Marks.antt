-- Rows in an order, and marks of cones: a word of marks stands for each leaf, and each mark for a sink.
use Rattle.std.specs.Prelude.{◌≡◌, ◌⊎◌, ◌↔◌, ℕ, ◌<◌, ◌≤◌, true, false, IsTrue, List, length, get_or, slice_get, slice_index, Some, Contains}
use Rattle.cone_cutter.specs.declared.placing.Placing.{Placing}
use Rattle.cone_cutter.specs.declared.holding.Holding.{Holding}
use Rattle.cone_cutter.specs.declared.arranging.Arranged.{Arranged}
use Rattle.cone_cutter.specs.declared.rows.NetRows.{NetRows}
use Rattle.cone_cutter.specs.Cuts.{NeededBy, ArePlaced, placed_in, Counts}
use Rattle.cone_cutter.specs.Rows.{row_at, Met, ConeAt}
use Rattle.cone_cutter.specs.Walks.{IsOnce}
use Rattle.cone_cutter.specs.Loads.{has_bit, holds}

-- Each once, after all that it reads.
pub record IsRowOrder (reads : List (List ℕ)) (sequence : List ℕ) : Type 0 where
  pub within : (x : ℕ) → Contains sequence x → x < length reads
  pub once : IsOnce sequence
  pub after : (k w : ℕ) → k < length sequence → Contains (row_at reads (slice_index sequence k)) w → (j : ℕ) × (j < k) × (slice_index sequence j ≡ w)

-- What the sinks need stands in the order.
abbrev pub AreInOrder : List (List ℕ) → List ℕ → Type 0
AreInOrder needed sequence = (k x : ℕ) → Contains (row_at needed k) x → Contains sequence x

-- The mark stands on exactly the leaves of which this is true.
abbrev pub StandsOn : List ℕ → ℕ → (ℕ → Type 0) → Type 0
StandsOn marks s is = (x : ℕ) → x < length marks → IsTrue (holds marks s x) ↔ is x

-- The leaves of a row get these marks, and keep their own; the others keep theirs.
pub record Spreads (row : List ℕ) (mark : ℕ) (old new : List ℕ) : Type 0 where
  pub long : length new ≡ length old
  pub got : (s x : ℕ) → Contains row x → has_bit mark s ≡ true → holds new s x ≡ true
  pub kept : (s x : ℕ) → holds old s x ≡ true → holds new s x ≡ true
  pub only : (s x : ℕ) → holds new s x ≡ true → (holds old s x ≡ true) ⊎ (Contains row x × (has_bit mark s ≡ true))

-- Marks that were handed on by those from a place on.
pub record HandsOn (reads : List (List ℕ)) (sequence : List ℕ) (place : ℕ) (old marks : List ℕ) : Type 0 where
  pub long : length marks ≡ length old
  pub kept : (s x : ℕ) → holds old s x ≡ true → holds marks s x ≡ true
  pub only : (s : ℕ) (roots : List ℕ) → ((x : ℕ) → holds old s x ≡ true → Contains roots x) → (x : ℕ) → holds marks s x ≡ true → Met reads roots x
  pub handed : (s k w : ℕ) → place ≤ k → k < length sequence → Contains (row_at reads (slice_index sequence k)) w → holds marks s (slice_index sequence k) ≡ true → holds marks s w ≡ true

-- What the first sinks need themselves.
pub record AreRoots (needed : List (List ℕ)) (count : ℕ) (roots : List ℕ) : Type 0 where
  pub from : (x : ℕ) → Contains roots x → (k : ℕ) × (k < count) × Contains (row_at needed k) x
  pub to : (k x : ℕ) → k < count → Contains (row_at needed k) x → Contains roots x

-- The sizes of the first cones.
pub record AreSizes (reads needed : List (List ℕ)) (sizes : List ℕ) : Type 0 where
  pub sized : (k : ℕ) → k < length sizes → Counts (ConeAt reads needed k) (slice_index sizes k)
  pub few : (k : ℕ) → k < length sizes → slice_index sizes k ≤ length reads

-- Sinks were placed by the rule: the partition of each is its owner, and the masks say what each partition then holds.
pub record IsHeld (reads needed : List (List ℕ)) (workers : ℕ) (it : Holding) : Type 0 where
  pub placings : List Placing
  pub are_placed : ArePlaced (ConeAt reads needed) (length needed) workers placings
  pub sinks : length it.owners.items ≡ length needed
  pub leaves : length it.masks.items ≡ length reads
  pub owners : (i : ℕ) (next : Placing) → slice_get placings i ≡ Some next → slice_index it.owners.items next.sink ≡ next.part
  pub held : (p x : ℕ) → p < workers → x < length reads → IsTrue (holds it.masks.items p x) ↔ NeededBy (ConeAt reads needed) (placed_in p placings) x

-- Numbers in an order; of the vertices it is known which stand there.
pub record IsArranged (rows : NetRows) (it : Arranged) : Type 0 where
  pub long : length it.placed.items ≡ length rows.reads.items
  pub order : IsRowOrder rows.reads.items it.all.items
  pub placed : (r : ℕ) → get_or it.placed.items r false ≡ true → Contains it.all.items r
  pub unplaced : (r : ℕ) → rows.leaves ≤ r → Contains it.all.items r → get_or it.placed.items r false ≡ true

-- What the vertices in a row stand for stands there.
abbrev pub AreReady : NetRows → List ℕ → Arranged → Type 0
AreReady rows row it = (r y : ℕ) → Contains row r → rows.leaves ≤ r → Contains (row_at rows.reads.items r) y → Contains it.all.items y

-- The vertices in a row are placed, and no leaf is.
pub record PlacesVertices (rows : NetRows) (row : List ℕ) (old new : Arranged) : Type 0 where
  pub arranged : IsArranged rows new
  pub stays : (x : ℕ) → Contains old.all.items x → Contains new.all.items x
  pub leaves : (x : ℕ) → x < rows.leaves → Contains new.all.items x → Contains old.all.items x
  pub there : (r : ℕ) → Contains row r → rows.leaves ≤ r → Contains new.all.items r

-- A leaf is placed, and no other one is.
pub record PlacesLeaf (rows : NetRows) (leaf : ℕ) (old new : Arranged) : Type 0 where
  pub arranged : IsArranged rows new
  pub stays : (x : ℕ) → Contains old.all.items x → Contains new.all.items x
  pub leaves : (x : ℕ) → x < rows.leaves → Contains new.all.items x → Contains old.all.items x ⊎ (leaf ≡ x)
  pub there : Contains new.all.items leaf
