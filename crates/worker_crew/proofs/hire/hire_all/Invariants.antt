use Rattle.std.proofs.Common.{ℕ, ◌<◌, ◌≡◌, ◌+◌, ◌≤◌, length, vec_len, vec_capacity, vec_items}
use Rattle.phase_core.specs.Sound.{view}
use Rattle.register_table.specs.Shown.{ComesFrom}
use Rattle.worker_crew.specs.Crew.{Fresh}
use Rattle.worker_crew.specs.Numbers.{held}
use Rattle.crew_workers.specs.Standing.{Each}
use Rattle.worker_crew.proofs.hire.hire_all.Given as goal

abbrev pub invariant-loop-number : goal.invariant-loop-number
invariant-loop-number g l = record {
  some : 1 ≤ l.number;
  few : l.number ≤ length l.shared.codes.now;
  len : vec_len l.workers + l.number ≡ length l.shared.codes.now;
  room : length l.shared.codes.now ≤ vec_capacity l.workers;
  table_is : ComesFrom l.post l.shared.table.now;
  view_is : l.post.view ≡ view 0 l.number 0 0 0;
  above : (k : ℕ) → l.number ≤ k → k < length l.shared.codes.now → 1 ≤ held k (vec_items l.workers);
  workers : Each (Fresh l.shared) (vec_items l.workers);
}

abbrev pub decreases-loop-number : goal.decreases-loop-number
decreases-loop-number g l = l.number
