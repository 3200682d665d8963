-- Where a worker stands.
use Rattle.std.specs.Prelude.{◌≡◌, ℕ, ◌+◌, ◌*◌, ◌<◌, ◌≤◌, List, length, slice_index_or, vec_capacity, vec_len}
use Rattle.phase_core.specs.declared.model.View.{View}
use Rattle.phase_core.specs.Script.{publications}
use Rattle.phase_core.specs.Sound.{view}
use Rattle.register_table.specs.declared.plan.Plan.{Ghosts}
use Rattle.register_table.specs.declared.table.RegisterTable.{RegisterTable}
use Rattle.register_table.specs.Shown.{ComesFrom}
use Rattle.flat_code.specs.Codes.{frame_length}
use Rattle.crew_workers.specs.declared.worker.Worker.{Worker}
use Rattle.crew_workers.specs.Codes.{Recorded}

-- the view once all n publications of its phase are stored
abbrev pub after_publications : View → ℕ → View
after_publications v n = view v.low v.high v.arrivals v.passed n

module _ {N : Type 0} {p : Ghosts N} where
  -- the number of cycles that the worker has recorded
  abbrev pub recorded : Worker N p → ℕ
  recorded w = vec_len w.desk.outputs

  -- a worker of the table with these counts, which has recorded n cycles
  pub record At (table : RegisterTable N p) (w : Worker N p) (arrivals passed done n : ℕ) : Type 0 where
    pub table_is : ComesFrom w.post table
    pub view_is : w.post.view ≡ view w.desk.duty.number (w.desk.duty.number + 1) arrivals passed done
    pub recorded_is : recorded w ≡ n

  -- it has ended the phase and waits to pass
  pub record Arrived (table : RegisterTable N p) (w : Worker N p) (phase n : ℕ) : Type 0 where
    pub at : At table w (phase + 1) phase w.post.view.done n

  -- the frame is long enough for its code
  abbrev pub FrameFits : ℕ → Worker N p → Type 0
  FrameFits room w = frame_length w.desk.duty.code.now ≤ room

  abbrev pub Each : (Worker N p → Type 0) → List (Worker N p) → Type 0
  Each P ws = (k : ℕ) (d : Worker N p) → k < length ws → P (slice_index_or ws k d)

  -- the workers have the same things to do as before
  pub record SameDuties (old new : List (Worker N p)) : Type 0 where
    pub many : length new ≡ length old
    pub duty : (k : ℕ) (d : Worker N p) → k < length old → (slice_index_or new k d).desk.duty ≡ (slice_index_or old k d).desk.duty

  abbrev pub AtStart : RegisterTable N p → Worker N p → Type 0
  AtStart table w = At table w 0 0 0 0

  abbrev pub AtEnd : RegisterTable N p → Worker N p → Type 0
  AtEnd table w = At table w (2 * p.script.cycles) (2 * p.script.cycles) 0 p.script.cycles
