-- The workers of an epoch.
use Rattle.std.specs.Prelude.{◌≡◌, ℕ, ◌<◌, ◌≤◌, ◌⊎◌, List, [], length, slice_index_or, Option, Some, None}
use Rattle.bit_words.specs.declared.value.Value.{Value}
use Rattle.phase_core.specs.declared.model.Script.{Script}
use Rattle.register_table.specs.declared.plan.Plan.{Ghosts}
use Rattle.register_table.specs.declared.table.RegisterTable.{RegisterTable}
use Rattle.flat_code.specs.declared.code.Code.{Code}
use Rattle.flat_code.specs.Codes.{frame_length}
use Rattle.crew_workers.specs.declared.worker.Worker.{Worker}
use Rattle.crew_workers.specs.declared.worker.Duty.{Duty}
use Rattle.crew_workers.specs.Codes.{Recorded}
use Rattle.crew_workers.specs.Standing.{AtStart, AtEnd}
use Rattle.worker_crew.specs.declared.crew.Shared.{Shared}

-- what the workers of an epoch have in common: the codes, the input rows and the length of a frame
pub record Task : Type 0 where
  pub codes : List Code
  pub rows : List (List Value)
  pub room : ℕ

abbrev pub task : List Code → List (List Value) → ℕ → Task
task cs rs n = record { codes = cs; rows = rs; room = n }

-- the duty of one of these codes
pub record IsDuty (t : Task) (duty : Duty) : Type 0 where
  pub numbered : duty.number < length t.codes
  pub code_is : (d : Code) → slice_index_or t.codes duty.number d ≡ duty.code.now
  pub rows_are : duty.rows.now ≡ t.rows
  pub frame : frame_length duty.code.now ≤ t.room

module _ {N : Type 0} {p : Ghosts N} where
  abbrev pub task_of : Shared N p → Task
  task_of s = task s.codes.now s.rows.now s.room

  -- what a thread that was lent a worker answers: it did nothing, or all
  abbrev pub Answered : RegisterTable N p → Duty → Worker N p → Type 0
  Answered table duty w = (w.desk.duty ≡ duty) × (AtStart table w ⊎ AtEnd table w)

  pub record Fresh (s : Shared N p) (w : Worker N p) : Type 0 where
    pub at : AtStart s.table.now w
    pub duty : IsDuty (task_of s) w.desk.duty

  pub record Done (s : Shared N p) (w : Worker N p) : Type 0 where
    pub at : AtEnd s.table.now w
    pub duty : IsDuty (task_of s) w.desk.duty

  -- a place for the worker k: empty, or with that worker at its end
  abbrev pub PlaceOk : Shared N p → ℕ → Option (Worker N p) → Type 0
  PlaceOk s k None = Unit {0}
  PlaceOk s k (Some w) = Done s w × (w.desk.duty.number ≡ k)

  abbrev pub Places : Shared N p → List (Option (Worker N p)) → Type 0
  Places s os = (k : ℕ) → k < length os → PlaceOk s k (slice_index_or os k None)

-- the outputs of each code, from the code at `from` on
pub record Parts (s : Script) (t : Task) (parts : List (List (List Value))) (from : ℕ) : Type 0 where
  pub each : (k : ℕ) (d : Code) → from ≤ k → k < length t.codes → Recorded s (slice_index_or t.codes k d) t.rows (slice_index_or parts k [])
  pub many : (k : ℕ) → from ≤ k → k < length t.codes → length (slice_index_or parts k []) ≡ s.cycles
