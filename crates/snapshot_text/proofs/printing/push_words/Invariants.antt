use Rattle.std.proofs.Common.{◌≡◌, ◌+◌, ◌≤◌, ◌++◌, length}
use Rattle.snapshot_text.specs.Cells.{state_cells}
use Rattle.snapshot_text.specs.Texts.{lines_text}
use Rattle.snapshot_text.specs.Steps.{cells_ahead, IsSettled, count_cells, integers_at}
use Rattle.snapshot_text.proofs.printing.push_words.Given as goal

abbrev pub invariant-lines : goal.invariant-lines
invariant-lines l = record {
  text : l.text.items ++ lines_text (cells_ahead l.cursor) (integers_at (cells_ahead l.cursor) l.words l.at)
      ≡ l.initial.text.items ++ lines_text (state_cells l.net) (integers_at (state_cells l.net) l.words 0);
  long : l.at + count_cells (cells_ahead l.cursor) ≤ length l.words;
  settled : IsSettled l.cursor;
  net : l.cursor.net.now ≡ l.net;
}

abbrev pub decreases-lines : goal.decreases-lines
decreases-lines l = length (cells_ahead l.cursor)
