use Rattle.std.proofs.Common.{◌≡◌, length}
use Rattle.worker_crew.specs.Joins.{Remain, AreJoined}
use Rattle.worker_crew.proofs.rows.join_rows.Given as goal

abbrev pub invariant-loop-cycle : goal.invariant-loop-cycle
invariant-loop-cycle l = record {
  many : length l.rows ≡ l.cycle;
  parts : Remain l.initial.parts l.parts l.cycle;
  joined : AreJoined l.codes l.initial.parts l.rows;
}
