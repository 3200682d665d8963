use Rattle.std.proofs.Common.{◌≡◌, length}
use Rattle.snapshot_text.specs.Steps.{cells_ahead, IsSettled}
use Rattle.circuit_texts.proofs.Firsts.{Zeros}
use Rattle.circuit_texts.proofs.starting.first_words.Given as goal

abbrev pub invariant-lines : goal.invariant-lines
invariant-lines l = record {
  zeros : Zeros l.net l.words (cells_ahead l.cursor);
  settled : IsSettled l.cursor;
  net : l.cursor.net.now ≡ l.net;
}

abbrev pub decreases-lines : goal.decreases-lines
decreases-lines l = length (cells_ahead l.cursor)
