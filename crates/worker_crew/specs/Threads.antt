-- The threads that were started.
use Rattle.std.specs.Prelude.{◌≡◌, ℕ, ◌<◌, List, length, slice_index_or}
use Rattle.std.specs.declared.thread.PromisedHandle.{PromisedHandle}
use Rattle.register_table.specs.declared.plan.Plan.{Ghosts}
use Rattle.crew_workers.specs.declared.worker.Worker.{Worker}
use Rattle.worker_crew.specs.declared.crew.Lent.{Lent}
use Rattle.worker_crew.specs.declared.crew.Shared.{Shared}
use Rattle.worker_crew.specs.Crew.{task_of, IsDuty}

module _ {N : Type 0} {p : Ghosts N} where
  -- each was lent a worker of the table, with the duty of one of these codes
  abbrev pub Promised : Shared N p → List (PromisedHandle (Worker N p) (Lent N p)) → Type 0
  Promised s hs = (k : ℕ) (d : PromisedHandle (Worker N p) (Lent N p)) → k < length hs → ((slice_index_or hs k d).promise.table.value ≡ s.table.now) × IsDuty (task_of s) (slice_index_or hs k d).promise.duty.value
