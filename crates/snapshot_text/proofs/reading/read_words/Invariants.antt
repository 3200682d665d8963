use Rattle.std.proofs.Common.{◌≡◌, ◌≤◌, length}
use Rattle.snapshot_text.specs.Cells.{state_cells}
use Rattle.snapshot_text.specs.Steps.{cells_ahead, IsSettled}
use Rattle.snapshot_text.proofs.Held.{IsKeptTo}
use Rattle.snapshot_text.proofs.reading.read_words.Given as goal

abbrev pub invariant-lines : goal.invariant-lines
invariant-lines l = record {
  kept : IsKeptTo l.bytes (state_cells l.net) l.fn.at (cells_ahead l.cursor) l.behind l.words;
  settled : IsSettled l.cursor;
  net : l.cursor.net.now ≡ l.net;
  within : l.behind ≤ length l.bytes;
}

abbrev pub decreases-lines : goal.decreases-lines
decreases-lines l = length (cells_ahead l.cursor)
