-- What holds of the barrier, the words and the views at every moment.
use Rattle.std.specs.Prelude.{◌≡◌, ℕ, ◌+◌, ◌-◌, ◌*◌, ◌/◌, ◌%◌, ◌<◌, ◌≤◌, if◌then◌else◌, ◌&&◌, nat_lt, nat_le, ◌⊎◌, List, [], ◌∷◌, length, take, slice_index, Option, Some, None}
use mathlib.Core.Option.{some}
use lib.ListN.{get_elem?}
use Rattle.phase_core.specs.declared.model.Script.{Script}
use Rattle.phase_core.specs.declared.model.View.{View}
use Rattle.phase_core.specs.declared.model.Publication.{Publication}
use Rattle.phase_core.specs.Script.{owner, publications, published, values}

-- the view of the workers from low to high with these counts
abbrev pub view : ℕ → ℕ → ℕ → ℕ → ℕ → View
view low high k p d = record { low = low; high = high; arrivals = k; passed = p; done = d }

-- 1 where the view covers the worker w, else 0
abbrev pub covers : ℕ → View → ℕ
covers w v = if nat_le v.low w && nat_lt w v.high then 1 else 0

-- how many workers it covers
abbrev pub width : View → ℕ
width v = v.high - v.low

-- the arrivals that the view stands for
abbrev pub weight : View → ℕ
weight v = width v * v.arrivals

-- the sum of f over the live views
abbrev pub total : (View → ℕ) → List (Option View) → ℕ
total f [] = 0
total f (None ∷ vs) = total f vs
total f (Some v ∷ vs) = f v + total f vs

-- the view at j is live, and is v
abbrev pub Live : List (Option View) → ℕ → View → Type 0
Live vs j v = get_elem? vs j ≡ some (Some v)

-- each worker is covered by just one live view; so the widths add up to the number of workers
pub record Cover (s : Script) (views : List (Option View)) : Type 0 where
  pub each : (w : ℕ) → w < s.workers → total (covers w) views ≡ 1
  pub widths : total width views ≡ s.workers
  pub spans : (j : ℕ) (v : View) → Live views j v → (v.low < v.high) × (v.high ≤ s.workers)

-- how often a view arrived and passed; a view of several workers stands before the first phase or behind the last
pub record Counts (s : Script) (v : View) : Type 0 where
  pub behind : v.passed ≤ v.arrivals
  pub ahead : v.arrivals ≤ v.passed + 1
  pub last : v.arrivals ≤ 2 * s.cycles
  pub several : v.low + 1 < v.high → (v.arrivals ≡ v.passed) × ((v.passed ≡ 0) ⊎ (v.passed ≡ 2 * s.cycles)) × (v.done ≡ 0)

-- what the worker of the view publishes in the cycle that it is in
abbrev pub part_of : Script → View → List Publication
part_of s v = publications s (v.passed / 2) v.low

-- an even phase publishes nothing, an odd one up to the worker's part, and all of it before the worker arrives
pub record DoneBound (s : Script) (v : View) : Type 0 where
  pub even : v.passed % 2 ≡ 0 → v.done ≡ 0
  pub odd : v.passed % 2 ≡ 1 → v.done ≤ length (part_of s v)
  pub arrived : v.passed % 2 ≡ 1 → v.arrivals ≡ v.passed + 1 → v.done ≡ length (part_of s v)

-- the word i as its owner's view v has it: the value of its cycle, once the owner's first publications are stored
abbrev pub shown : Script → View → ℕ → ℕ
shown s v i = slice_index (published (take v.done (publications s (v.passed / 2) (owner s i))) (values s (v.passed / 2))) i

-- each word is as the view that covers its owner has it
pub record WordsHold (s : Script) (words : List ℕ) (views : List (Option View)) : Type 0 where
  pub size : length words ≡ length s.first
  pub each : (j i : ℕ) (v : View) → Live views j v → i < length s.first → v.low ≤ owner s i → owner s i < v.high → slice_index words i ≡ shown s v i

pub record Sound (s : Script) (barrier : ℕ) (words : List ℕ) (views : List (Option View)) : Type 0 where
  pub cover : Cover s views
  pub counts : (j : ℕ) (v : View) → Live views j v → Counts s v
  pub barrier_sum : barrier ≡ total weight views
  pub none_far_ahead : (i j : ℕ) (u v : View) → Live views i u → Live views j v → u.passed ≤ v.arrivals
  pub done_bound : (j : ℕ) (v : View) → Live views j v → DoneBound s v
  pub words_hold : WordsHold s words views
