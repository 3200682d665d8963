-- What the partitions hold. A mask stands for each leaf: its bit p says that the partition p has the leaf.
use Rattle.std.specs.Prelude.{◌≡◌, ◌≢◌, ◌⊎◌, ◌↔◌, ℕ, ◌+◌, ◌-◌, ◌*◌, ◌^◌, ◌<◌, ◌≤◌, ◌==◌, Bool, true, IsTrue, List, length, map, filter, take, slice_get, slice_index, slice_set, count_by, Contains, Some}
use Rattle.std.specs.List.{range_with_len}
use Rattle.std.specs.Int.{bit_at}
use Rattle.cone_cutter.specs.declared.placing.Placing.{Placing}
use Rattle.cone_cutter.specs.declared.loads.Load.{Load}
use Rattle.cone_cutter.specs.Cuts.{Counts, NeededBy, IsLeast, placed_in}
use Rattle.ground_net.specs.declared.net.CutPart.{CutPart}
use Rattle.cone_cutter.specs.Rows.{ConeAt, places_of}

-- whether a mask has the bit of a partition
abbrev pub has_bit : ℕ → ℕ → Bool
has_bit mask p = bit_at mask p == 1

-- whether a partition has the leaf
abbrev pub holds : List ℕ → ℕ → ℕ → Bool
holds masks p x = has_bit (slice_index masks x) p

-- how many leaves of a cone a partition has, and the number that it would have with the whole cone
abbrev pub shared_by : List ℕ → List ℕ → ℕ → ℕ
shared_by masks cone p = count_by (holds masks p) cone

abbrev pub cost_with : List ℕ → List ℕ → List ℕ → ℕ → ℕ
cost_with masks costs cone p = slice_index costs p + (length cone - shared_by masks cone p)

-- the cheapest of the places of a list, the first one on a tie
pub record IsCheapest (cost : ℕ → ℕ) (count best : ℕ) : Type 0 where
  pub within : best < count
  pub least : (p : ℕ) → p < count → cost best ≤ cost p
  pub lowest : (p : ℕ) → p < best → cost best < cost p

-- A partition gets the leaves of a cone, and no other one changes.
pub record Gets (part : ℕ) (cone old new : List ℕ) : Type 0 where
  pub long : length new ≡ length old
  pub got : (x : ℕ) → Contains cone x → holds new part x ≡ true
  pub kept : (x : ℕ) → holds old part x ≡ true → holds new part x ≡ true
  pub only : (x : ℕ) → holds new part x ≡ true → Contains cone x ⊎ (holds old part x ≡ true)
  pub others : (p x : ℕ) → p ≢ part → holds new p x ≡ holds old p x

-- The cone goes to the partition that would then have the fewest leaves.
pub record Takes (cone : List ℕ) (old new : Load) (part : ℕ) : Type 0 where
  pub cheapest : IsCheapest (cost_with old.masks.items old.costs.items cone) (length old.costs.items) part
  pub masks : Gets part cone old.masks.items new.masks.items
  pub costs : new.costs.items ≡ slice_set old.costs.items part (cost_with old.masks.items old.costs.items cone part)
  pub room : length new.shared.items ≡ length old.shared.items

-- the tables have a place for each leaf and each partition
pub record HasRoom (count workers : ℕ) (load : Load) : Type 0 where
  pub masks : length load.masks.items ≡ count
  pub costs : length load.costs.items ≡ workers
  pub shared : length load.shared.items ≡ workers

-- Where these sinks were placed: what each partition holds, and how much it is.
pub record IsLoad (reads needed : List (List ℕ)) (workers : ℕ) (placings : List Placing) (load : Load) : Type 0 where
  pub room : HasRoom (length reads) workers load
  pub held : (p x : ℕ) → p < workers → x < length reads → IsTrue (holds load.masks.items p x) ↔ NeededBy (ConeAt reads needed) (placed_in p placings) x
  pub counts : (p : ℕ) → p < workers → Counts (NeededBy (ConeAt reads needed) (placed_in p placings)) (slice_index load.costs.items p)
  pub small : (p : ℕ) → slice_index load.costs.items p ≤ length placings * 2 ^ 32
  pub choices : (i : ℕ) (next : Placing) → slice_get placings i ≡ Some next → IsLeast (ConeAt reads needed) workers (take i placings) next

-- Partitions by the owners of sinks and the masks of leaves.
abbrev pub part_by : List ℕ → List ℕ → List ℕ → ℕ → CutPart
part_by owners masks sequence p = record { sinks = places_of owners p; assignments = filter (holds masks p) sequence }

abbrev pub parts_by : List ℕ → List ℕ → List ℕ → ℕ → List CutPart
parts_by owners masks sequence workers = map (part_by owners masks sequence) (range_with_len 0 workers)
