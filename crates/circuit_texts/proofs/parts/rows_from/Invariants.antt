use Rattle.std.proofs.Common.{◌≡◌, ℕ, ◌-◌, ◌<◌, ◌≤◌, length, take, get_or}
use Rattle.stimulus.specs.declared.stimulus.Setting.{Setting}
use Rattle.circuit_texts.specs.StimulusParts.{rows_from}
use Rattle.circuit_texts.specs.Steps.{row_after}
use Rattle.circuit_texts.proofs.parts.rows_from.Given as goal

abbrev pub invariant-loop-cycle : goal.invariant-loop-cycle
invariant-loop-cycle l = record {
  rows : l.rows ≡ rows_from l.start l.stimulus.settings l.fn.span.first (l.cycle - l.fn.span.first);
  row : l.row ≡ row_after l.start (take l.next l.stimulus.settings);
  within : l.next ≤ length l.stimulus.settings;
  passed : (k : ℕ) (d : Setting) → k < l.next → (get_or l.stimulus.settings k d).cycle ≤ l.cycle;
}
