-- A net as rows of numbers: what each leaf reads and what each sink needs, of both the assignments alone.
use Rattle.std.specs.Prelude.{◌≡◌, ℕ, ◌<◌, ◌≤◌, ◌==◌, Bool, true, false, List, [], length, map, filter, slice_get, slice_index, get_or, All, Contains, Option, Some, None}
use Rattle.std.specs.List.{range_with_len}
use Rattle.ground_net.specs.declared.net.Net.{Net}
use Rattle.ground_net.specs.declared.net.Leaf.{Leaf}
use Rattle.ground_net.specs.declared.net.Role.{Role}
use Rattle.ground_net.specs.declared.net.Role.TheVariants as role
use Rattle.ground_net.specs.Cones.{Sink, A_watched, A_register, A_memory, needs}
use Rattle.ground_net.specs.Reads.{direct_reads}
pub use Rattle.comb_order.specs.Spreads.{is_assigned_role, is_assigned_leaf, is_assignment, assignments_among, row_at, told}
use Rattle.comb_order.specs.declared.spread.Spread.{Spread}
use Rattle.comb_order.specs.Spreading.{IsBegun, Grows}
use Rattle.cone_cutter.specs.declared.rows.NetRows.{NetRows}
use Rattle.cone_cutter.specs.declared.sinks.SinkAt.{SinkAt}
use Rattle.cone_cutter.specs.declared.sinks.SinkAt.TheVariants as at

-- the places, from 0, at which a number stands in a list
abbrev pub places_of : List ℕ → ℕ → List ℕ
places_of keys x = filter (λ place. slice_index keys place == x) (range_with_len 0 (length keys))

-- a sink of the net
abbrev pub sink_of : SinkAt → Sink
sink_of (at.Watched x) = A_watched x
sink_of (at.Register k) = A_register k
sink_of (at.Memory m) = A_memory m

-- the assignments among these leaves
abbrev pub assignments_of : Net → List ℕ → List ℕ
assignments_of net = assignments_among net.leaves

-- for each leaf the assignments that it reads, and for each sink those that it needs itself
abbrev pub read_rows : Net → List (List ℕ)
read_rows net = map (λ x. assignments_of net (direct_reads net x)) (range_with_len 0 (length net.leaves))

abbrev pub need_rows : Net → List Sink → List (List ℕ)
need_rows net = map (λ sink. assignments_of net (needs net sink))

-- the rows have numbers below n
abbrev pub AreBelow : ℕ → List (List ℕ) → Type 0
AreBelow n rows = All (λ row. All (λ x. x < n) row) rows

-- What is met from the roots along the rows.
pub data Met (reads : List (List ℕ)) (roots : List ℕ) : ℕ → Type 0 where
  root : {x : ℕ} → Contains roots x → Met reads roots x
  next : {x y : ℕ} → Met reads roots x → Contains (row_at reads x) y → Met reads roots y

-- the cone of the sink of a number
abbrev pub ConeAt : List (List ℕ) → List (List ℕ) → ℕ → ℕ → Type 0
ConeAt reads needed k x = Met reads (row_at needed k) x

-- what the rows of leaves and of sinks tell
abbrev pub reads_in : NetRows → List (List ℕ)
reads_in rows = map (λ x. told rows.leaves rows.reads.items (row_at rows.reads.items x)) (range_with_len 0 rows.leaves)

abbrev pub needs_in : NetRows → List (List ℕ)
needs_in rows = map (told rows.leaves rows.reads.items) rows.needed.items

-- There is a row for each number in a row, and those of the vertices, behind those of the leaves, have leaves.
pub record AreNetRows (rows : NetRows) : Type 0 where
  pub count : rows.leaves ≤ length rows.reads.items
  pub inside : AreBelow (length rows.reads.items) rows.reads.items
  pub needs_inside : AreBelow (length rows.reads.items) rows.needed.items
  pub vertices : (r y : ℕ) → rows.leaves ≤ r → Contains (row_at rows.reads.items r) y → y < rows.leaves

-- rows that tell what the sinks need themselves
pub record TellsNeeds (net : Net) (sinks : List Sink) (old new : Spread) (rows : List (List ℕ)) : Type 0 where
  pub begun : IsBegun net.leaves new
  pub grows : Grows old.rows.items new.rows.items
  pub inside : AreBelow (length new.rows.items) rows
  pub tells : map (told (length net.leaves) new.rows.items) rows ≡ need_rows net sinks
