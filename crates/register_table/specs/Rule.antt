-- The rule of the table, and what each step tells of the seat's view.
use Rattle.std.specs.Prelude.{◌≡◌, ℕ, ◌+◌, ◌-◌, ◌*◌, ◌/◌, ◌^◌, ◌<◌, ◌≤◌, List, ◌∷◌, map, slice_index, Option, Some, None}
use mathlib.Core.Option.{some}
use lib.ListN.{get_elem?}
use Rattle.atomic_table.specs.Table.{Me, Step}
use Rattle.phase_core.specs.declared.model.Script.{Script}
use Rattle.phase_core.specs.declared.model.View.{View}
use Rattle.phase_core.specs.Script.{values}
use Rattle.phase_core.specs.Sound.{view, Sound}
use Rattle.phase_core.specs.Steps.{left_part, right_part, after_pass, after_arrival, after_publication, both}
use Rattle.register_table.specs.declared.plays.Held.{Held}

-- what a seat knows: its view, none once it was joined into another, and the script of the table
abbrev pub view_of : Held → Option View
view_of h = h.view

abbrev pub seated : View → Script → Held
seated v s = record { view = Some v; script = s }

-- the first word is the barrier and the others are the script's words; with the seats' views they are sound
pub record Holds (s : Script) (words : List ℕ) (seats : List Held) : Type 0 where
  pub knows : (j : ℕ) (h : Held) → get_elem? seats j ≡ some h → h.script ≡ s
  pub barrier : ℕ
  pub data_words : List ℕ
  pub words_are : words ≡ barrier ∷ data_words
  pub sound : Sound s barrier data_words (map view_of seats)

abbrev pub begin_view : Script → View
begin_view s = view 0 s.workers 0 0 0

abbrev pub Sat : Type 0
Sat = Me (Unit {0}) Held

abbrev pub on_view : (View → View) → Option View → Option View
on_view f None = None
on_view f (Some v) = Some (f v)

abbrev pub on : (View → View) → Held → Held
on f h = record { view = on_view f h.view; script = h.script }

abbrev pub passed_of : Option View → ℕ
passed_of None = 0
passed_of (Some v) = v.passed

abbrev pub done_of : Option View → ℕ
done_of None = 0
done_of (Some v) = v.done

-- a load of the barrier: where it is large enough the view passes, else nothing changes
abbrev pub looked : Script → Step (Unit {0}) → Sat → ℕ → Sat → Type 0
looked s st m found m' = (s.workers * (passed_of m.0.view + 1) ≤ found → m' ≡ (on after_pass m.0, m.1)) × (found < s.workers * (passed_of m.0.view + 1) → m' ≡ m)

-- an arrival; the phases are fewer than 2 ^ 64
abbrev pub arrived : Step (Unit {0}) → Sat → ℕ → Sat → Type 0
arrived st m found m' = (m' ≡ (on after_arrival m.0, m.1)) × (passed_of m.0.view + 1 < 2 ^ 64)

-- a load of a data word: it is the value at the beginning of the view's cycle
abbrev pub loaded : Script → Step (Unit {0}) → Sat → ℕ → Sat → Type 0
loaded s st m found m' = (m' ≡ m) × (found ≡ slice_index (values s (passed_of m.0.view / 2)) (st.word - 1))

-- a publication; a worker's publications of a cycle are fewer than 2 ^ 64
abbrev pub published : Step (Unit {0}) → Sat → ℕ → Sat → Type 0
published st m found m' = (m' ≡ (on after_publication m.0, m.1)) × (done_of m.0.view + 1 < 2 ^ 64)

abbrev pub left_of : ℕ → Held → Held
left_of at = on (λ v. left_part v at)

abbrev pub right_of : ℕ → Held → Held
right_of at = on (λ v. right_part v at)

abbrev pub both_views : Option View → Option View → Option View
both_views None o = None
both_views (Some v) None = Some v
both_views (Some v) (Some u) = Some (both v u)

abbrev pub both_of : Held → Held → Held
both_of h g = record { view = both_views h.view g.view; script = h.script }

abbrev pub spent_of : Script → Held
spent_of s = record { view = None; script = s }
