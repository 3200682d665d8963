use Rattle.std.proofs.Common.{◌≡◌, ◌*◌, length}
use Rattle.crew_workers.specs.Standing.{At, Each, SameDuties}
use Rattle.crew_workers.proofs.phases.drive.Given as goal

abbrev pub invariant-loop-cycle : goal.invariant-loop-cycle
invariant-loop-cycle g l = record {
  at : Each (λ w. At l.table w (2 * l.cycle) (2 * l.cycle) 0 l.cycle) l.workers;
  duties : SameDuties l.initial.workers l.workers;
  frame : length l.frame ≡ length l.initial.frame;
}
