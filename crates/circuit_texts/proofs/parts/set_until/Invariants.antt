use Rattle.std.proofs.Common.{◌≡◌, ℕ, ◌-◌, ◌<◌, ◌≤◌, List, length, take, get_or}
use Rattle.bit_words.specs.declared.value.Value.{Value}
use Rattle.stimulus.specs.declared.stimulus.Setting.{Setting}
use Rattle.circuit_texts.specs.Steps.{row_after}
use Rattle.circuit_texts.proofs.parts.set_until.Given as goal

abbrev pub invariant-loop-at : goal.invariant-loop-at
invariant-loop-at l = record {
  set : (start : List Value) → l.fn.row ≡ row_after start (take l.fn.next l.settings) → l.row ≡ row_after start (take l.at l.settings);
  long : length l.row ≡ length l.fn.row;
  onward : l.fn.next ≤ l.at;
  within : l.at ≤ length l.settings;
  passed : (k : ℕ) (d : Setting) → l.fn.next ≤ k → k < l.at → (get_or l.settings k d).cycle ≤ l.cycle;
}

abbrev pub decreases-loop-at : goal.decreases-loop-at
decreases-loop-at l = length l.settings - l.at
