use Rattle.std.proofs.Common.{◌≡◌, ◌+◌, ◌*◌, ◌/◌, length}
use Rattle.crew_workers.specs.Lists.{Through}
use Rattle.crew_workers.specs.Standing.{At, Arrived}
use Rattle.crew_workers.proofs.phases.pass_all.Given as goal

abbrev pub invariant-loop-i : goal.invariant-loop-i
invariant-loop-i g l = record {
  through : Through (λ _ v w. At l.table w (l.phase + 1) (l.phase + 1) 0 (l.phase / 2 + 1) × (w.desk.duty ≡ v.desk.duty)) l.initial.workers l.workers l.i;
}
