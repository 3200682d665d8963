use Rattle.std.proofs.Common.{◌≡◌, ◌-◌, ◌≤◌, length}
use Rattle.stimulus.specs.Reading.{told_at}
use Rattle.stimulus.proofs.words.next_line.Given as goal

abbrev pub invariant-lines : goal.invariant-lines
invariant-lines l = record {
  same : told_at l.bytes l.at ≡ told_at l.bytes l.fn.from;
  onward : l.fn.from ≤ l.at;
  within : l.at ≤ length l.bytes;
}

abbrev pub decreases-lines : goal.decreases-lines
decreases-lines l = length l.bytes - l.at
