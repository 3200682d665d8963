-- Each atomic step that a call makes on the table is a step of the core: what the play of the step tells, made of the table, is it.
use Rattle.std.specs.Prelude.{◌≡◌, ℕ, ◌+◌, ◌*◌, ◌%◌, ◌^◌, ◌<◌, ◌≤◌, true, false, [], ◌∷◌, ◌++◌, map, length, drop, slice_index, slice_set, Some}
use mathlib.Core.Option.{some}
use lib.ListN.{get_elem?}
use Rattle.atomic_table.specs.Table.{State, keeps, opening}
use Rattle.atomic_table.specs.Table as table
use Rattle.phase_core.specs.declared.model.Script.{Script}
use Rattle.phase_core.specs.declared.model.Publication.{Publication}
use Rattle.phase_core.specs.declared.model.View.{View}
use Rattle.phase_core.specs.declared.model.PhaseState.{PhaseState}
use Rattle.phase_core.specs.declared.model.Step.{Step}
use Rattle.phase_core.specs.declared.model.Step.TheVariants.{Split, Stay, Pass, Arrive, Load, Publish, Join, Close}
use Rattle.phase_core.specs.Script.{IsScript}
use Rattle.phase_core.specs.Sound.{part_of, Sound}
use Rattle.phase_core.specs.Steps.{stepped, begun}
use Rattle.register_table.specs.declared.plays.Held.{Held}
use Rattle.register_table.specs.Rule.{Holds, Sat, view_of, seated, begin_view, looked, arrived, loaded, published, left_of, right_of, both_of, spent_of}

-- the words of a table and the views of its seats
abbrev pub Table : Type 0
Table = State (Unit {0}) Held

-- the table as a state of the core
abbrev pub core_state : Table → PhaseState
core_state t = record { barrier = slice_index t.words 0; words = drop 1 t.words; views = map view_of t.views; closed = false }

-- one change of the table is this step of the core
abbrev pub IsStep : Script → Table → Step → Table → Type 0
IsStep s t x u = stepped s (core_state t) x ≡ Some (core_state u)

-- the word i becomes n, and the seat id is what the play of the step tells
abbrev pub played : Table → ℕ → ℕ → ℕ → Sat → Table
played t i n id m = table.stepped t i n id m.1 m.0 keeps

-- the number that the word i holds
abbrev pub found : Table → ℕ → ℕ
found t i = slice_index t.words i

-- a seat with the view v
abbrev pub sitting : Script → View → Sat
sitting s v = (seated v s, [])

-- a table under the rule, in which the seat id has the view v
pub record Seated (s : Script) (t : Table) (id : ℕ) (v : View) : Type 0 where
  pub script : IsScript s
  pub rule : Holds s t.words t.views
  pub seat : get_elem? t.views id ≡ some (seated v s)

-- `open` gives the state at the beginning
abbrev pub OpensAsBegin : Type 0
OpensAsBegin = (s : Script) → core_state (opening (0 ∷ s.first) [] (seated (begin_view s) s)) ≡ begun s

abbrev pub SharesAsSplit : Type 0
SharesAsSplit = (s : Script) (t : Table) (id at : ℕ) (v : View) → Seated s t id v → v.arrivals ≡ 0 → v.low < at → at < v.high
    → IsStep s t (Split id at) (record { words = t.words; homes = t.homes; views = slice_set t.views id (left_of at (seated v s)) ++ right_of at (seated v s) ∷ [] })

-- a load of the barrier in `pass`
abbrev pub LooksAsStay : Type 0
LooksAsStay = (s : Script) (t : Table) (id : ℕ) (v : View) (x : table.Step (Unit {0})) (m : Sat) → Seated s t id v → v.arrivals ≡ v.passed + 1 → found t 0 < s.workers * (v.passed + 1)
    → looked s x (sitting s v) (found t 0) m → IsStep s t (Stay id) (played t 0 (found t 0) id m)

abbrev pub LooksAsPass : Type 0
LooksAsPass = (s : Script) (t : Table) (id : ℕ) (v : View) (x : table.Step (Unit {0})) (m : Sat) → Seated s t id v → v.arrivals ≡ v.passed + 1 → s.workers * (v.passed + 1) ≤ found t 0
    → looked s x (sitting s v) (found t 0) m → IsStep s t (Pass id) (played t 0 (found t 0) id m)

abbrev pub ArrivesAsArrive : Type 0
ArrivesAsArrive = (s : Script) (t : Table) (id : ℕ) (v : View) (x : table.Step (Unit {0})) (m : Sat) → Seated s t id v → v.high ≡ v.low + 1 → v.arrivals ≡ v.passed → v.passed < 2 * s.cycles
    → (v.passed % 2 ≡ 1 → v.done ≡ length (part_of s v)) → arrived x (sitting s v) (found t 0) m → IsStep s t (Arrive id) (played t 0 ((found t 0 + 1) % 2 ^ 64) id m)

abbrev pub ReadsAsLoad : Type 0
ReadsAsLoad = (s : Script) (t : Table) (id word : ℕ) (v : View) (x : table.Step (Unit {0})) (m : Sat) → Seated s t id v → v.arrivals ≡ v.passed → v.passed % 2 ≡ 0 → word < length s.first
    → loaded s x (sitting s v) (found t (word + 1)) m → IsStep s t (Load id word) (played t (word + 1) (found t (word + 1)) id m)

abbrev pub PublishesAsPublish : Type 0
PublishesAsPublish = (s : Script) (t : Table) (id : ℕ) (v : View) (p : Publication) (x : table.Step (Unit {0})) (m : Sat) → Seated s t id v → v.high ≡ v.low + 1 → v.arrivals ≡ v.passed
    → v.passed % 2 ≡ 1 → get_elem? (part_of s v) v.done ≡ some p → published x (sitting s v) (found t (p.word + 1)) m → IsStep s t (Publish id) (played t (p.word + 1) p.value id m)

abbrev pub UnitesAsJoin : Type 0
UnitesAsJoin = (s : Script) (t : Table) (id other : ℕ) (v u : View) → Seated s t id v → get_elem? t.views other ≡ some (seated u s)
    → v.arrivals ≡ 2 * s.cycles → v.passed ≡ 2 * s.cycles → u.arrivals ≡ 2 * s.cycles → u.passed ≡ 2 * s.cycles → v.high ≡ u.low
    → IsStep s t (Join id other) (record { words = t.words; homes = t.homes; views = slice_set (slice_set t.views id (both_of (seated v s) (seated u s))) other (spent_of s) })

abbrev pub FinishesAsClose : Type 0
FinishesAsClose = (s : Script) (t : Table) (id : ℕ) (v : View) → Seated s t id v → v.low ≡ 0 → v.high ≡ s.workers → v.passed ≡ 2 * s.cycles
    → stepped s (core_state t) (Close id) ≡ Some (record (core_state t) { closed = true })

-- at every moment the words and the live views of a table are sound for its script
abbrev pub StaysSound : Type 0
StaysSound = (s : Script) (t : Table) → Holds s t.words t.views → Sound s (core_state t).barrier (core_state t).words (core_state t).views
