use Rattle.std.proofs.Common.{◌≡◌, ◌+◌, ◌*◌, ◌/◌, length}
use Rattle.crew_workers.specs.Lists.{Through}
use Rattle.crew_workers.specs.Standing.{At, Arrived}
use Rattle.crew_workers.proofs.phases.evaluate_all.Given as goal

abbrev pub invariant-loop-i : goal.invariant-loop-i
invariant-loop-i g l = record {
  through : Through (λ _ v w. Arrived l.table w (2 * l.cycle) (l.cycle + 1) × (w.desk.duty ≡ v.desk.duty)) l.initial.workers l.workers l.i;
  frame : length l.frame ≡ length l.initial.frame;
}
