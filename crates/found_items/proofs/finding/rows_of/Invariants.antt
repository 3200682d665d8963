use Rattle.std.proofs.Common.{◌≡◌, ℕ, List, length}
use Rattle.std.specs.Prelude.{slice_get, Some}
use Rattle.lower_aggregates.specs.Circuits.{StandsFrom}
use Rattle.found_items.specs.declared.table.Row.{Row}
use Rattle.found_items.specs.Tables.{AreRowsAt}
use Rattle.found_items.proofs.finding.rows_of.Given as goal

abbrev pub invariant-loop-number : goal.invariant-loop-number
invariant-loop-number l = StandsFrom l.fn.fitted l.number l.rest × (length l.rows.items ≡ l.number) × ((k : ℕ) (own : List Row) → slice_get l.rows.items k ≡ Some own → AreRowsAt l.fn.fitted k own)
