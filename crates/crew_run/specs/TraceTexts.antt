-- The trace of watched leaves as a text of rows: their names, and then a line for each cycle.
use Rattle.std.specs.Prelude.{ℕ, false, List, [], map, slice_get, Option, Some, None}
use Rattle.ground_net.specs.declared.net.Net.{Net}
use Rattle.ground_net.specs.declared.net.Leaf.{Leaf}
use Rattle.trace_print.specs.Trace.{header_of, trace_line_of}
use Rattle.row_texts.specs.Tellings.{Telling}

-- the name of a leaf, where there is one
abbrev pub name_of_leaf : Option Leaf → List ℕ
name_of_leaf (Some leaf) = leaf.name
name_of_leaf None = []

-- the names of the leaves of these numbers
abbrev pub names_at : List Leaf → List ℕ → List (List ℕ)
names_at leaves watched = map (λ x. name_of_leaf (slice_get leaves x)) watched

abbrev pub telling_of_names : List (List ℕ) → Telling
telling_of_names names = record { head = header_of names; row = λ cycle before row. trace_line_of cycle row; ends = λ row. false; foot = λ cycle before byte. [] }

-- The trace of these leaves of a net.
abbrev pub trace_telling : Net → List ℕ → Telling
trace_telling net watched = telling_of_names (names_at net.leaves watched)
