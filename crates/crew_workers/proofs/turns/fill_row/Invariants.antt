use Rattle.std.proofs.Common.{◌≡◌, length}
use Rattle.crew_workers.specs.Turns.{RowFrom}
use Rattle.crew_workers.proofs.turns.fill_row.Given as goal

abbrev pub invariant-loop-k : goal.invariant-loop-k
invariant-loop-k l = record {
  row : RowFrom l.codes l.effects l.row l.k;
  many : length l.row ≡ length l.initial.row;
}
