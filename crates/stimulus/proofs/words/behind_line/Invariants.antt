use Rattle.std.proofs.Common.{◌≡◌, ◌-◌, ◌≤◌, length}
use Rattle.stimulus.specs.Reading.{lines_after}
use Rattle.stimulus.proofs.words.behind_line.Given as goal

abbrev pub invariant-loop-at : goal.invariant-loop-at
invariant-loop-at l = record {
  same : lines_after l.bytes l.at ≡ lines_after l.bytes l.fn.from;
  onward : l.fn.from ≤ l.at;
  within : l.at ≤ length l.bytes;
}

abbrev pub decreases-loop-at : goal.decreases-loop-at
decreases-loop-at l = length l.bytes - l.at
