use Rattle.std.proofs.Common.{◌≡◌, length}
use Rattle.worker_crew.specs.Joins.{LetGo, IsJoined}
use Rattle.worker_crew.proofs.rows.move_all.Given as goal

abbrev pub invariant-loop-k : goal.invariant-loop-k
invariant-loop-k l = record {
  many : length l.row ≡ length l.initial.row;
  row : IsJoined l.codes l.initial.parts l.cycle l.row l.k;
  parts : LetGo l.cycle l.initial.parts l.parts l.k;
}
