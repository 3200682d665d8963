use Rattle.std.proofs.Common.{ℕ, ◌≡◌, ◌+◌, ◌<◌, ◌≤◌, None, get_or, length, vec_len, vec_items}
use Rattle.worker_crew.specs.Crew.{Done, Places}
use Rattle.crew_workers.specs.Standing.{Each}
use Rattle.worker_crew.specs.Numbers.{held, there}
use Rattle.worker_crew.proofs.collect.place_all.Given as goal

abbrev pub invariant-loop-worker : goal.invariant-loop-worker
invariant-loop-worker g l = record {
  many : vec_len l.places ≡ length l.shared.codes.now;
  places : Places l.shared (vec_items l.places);
  each : (k : ℕ) → k < length l.shared.codes.now → 1 ≤ held k (vec_items l.done) + there (get_or (vec_items l.places) k None);
  done : Each (Done l.shared) (vec_items l.done);
}

abbrev pub decreases-loop-worker : goal.decreases-loop-worker
decreases-loop-worker g l = vec_len l.done
