use Rattle.std.proofs.Common.{◌≡◌, ◌*◌, length}
use Rattle.crew_workers.specs.Standing.{At}
use Rattle.crew_workers.proofs.phases.drive_one.Given as goal

abbrev pub invariant-loop-cycle : goal.invariant-loop-cycle
invariant-loop-cycle g l = record {
  at : At l.table l.worker (2 * l.cycle) (2 * l.cycle) 0 l.cycle;
  duty : l.worker.desk.duty ≡ l.initial.worker.desk.duty;
  frame : length l.frame ≡ length l.initial.frame;
}
