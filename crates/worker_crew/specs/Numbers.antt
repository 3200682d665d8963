-- The numbers of workers, wherever they are: with the caller, in a thread, or at a place.
use Rattle.std.specs.Prelude.{◌≡◌, ℕ, ◌<◌, ◌≤◌, cond, eqb, List, length, slice_index_or, Option, Some, None, sum_by}
use Rattle.std.specs.declared.thread.PromisedHandle.{PromisedHandle}
use Rattle.register_table.specs.declared.plan.Plan.{Ghosts}
use Rattle.crew_workers.specs.declared.worker.Worker.{Worker}
use Rattle.worker_crew.specs.declared.crew.Lent.{Lent}

-- 1 where the numbers are the same, else 0
abbrev pub same : ℕ → ℕ → ℕ
same k n = cond (eqb k n) 1 0

-- 1 where something is there, else 0
abbrev pub there : {A : Type 0} → Option A → ℕ
there None = 0
there (Some x) = 1

module _ {N : Type 0} {p : Ghosts N} where
  -- how many of these workers have the number k
  abbrev pub held : ℕ → List (Worker N p) → ℕ
  held k ws = sum_by (λ w. same k w.desk.duty.number) ws

  -- how many of these threads were lent a worker with the number k
  abbrev pub lent : ℕ → List (PromisedHandle (Worker N p) (Lent N p)) → ℕ
  lent k hs = sum_by (λ h. same k h.promise.duty.value.number) hs

  -- each of the first n numbers has a worker among these
  pub record Manned (n : ℕ) (ws : List (Worker N p)) : Type 0 where
    pub each : (k : ℕ) → k < n → 1 ≤ held k ws

-- each place is filled
pub record AllThere {A : Type 0} (places : List (Option A)) : Type 0 where
  pub each : (k : ℕ) → k < length places → there (slice_index_or places k None) ≡ 1
