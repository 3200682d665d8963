use Rattle.std.proofs.Common.{◌≡◌, ℕ, ◌-◌, ◌<◌, ◌≤◌, length, take, get_or}
use Rattle.stimulus.specs.declared.stimulus.Setting.{Setting}
use Rattle.stimulus.specs.Rows.{rows_from}
use Rattle.stimulus.specs.RowSteps.{row_after}
use Rattle.stimulus.proofs.input_rows.rows.Given as goal

abbrev pub invariant-loop-cycle : goal.invariant-loop-cycle
invariant-loop-cycle l = record {
  rows : l.rows ≡ rows_from l.ports l.stimulus.settings l.fn.first (l.cycle - l.fn.first);
  row : l.row ≡ row_after l.ports.inputs (take l.next l.stimulus.settings);
  within : l.next ≤ length l.stimulus.settings;
  passed : (k : ℕ) (d : Setting) → k < l.next → (get_or l.stimulus.settings k d).cycle ≤ l.cycle;
}
