use Rattle.std.proofs.Common.{◌≡◌, ℕ, true, ◌-◌, ◌<◌, ◌≤◌, length}
use Rattle.stimulus.specs.Reading.{is_ink_at}
use Rattle.stimulus.proofs.words.behind_ink.Given as goal

abbrev pub invariant-loop-at : goal.invariant-loop-at
invariant-loop-at l = record {
  inked : (k : ℕ) → l.fn.from ≤ k → k < l.at → is_ink_at l.bytes k ≡ true;
  onward : l.fn.from ≤ l.at;
  within : l.at ≤ length l.bytes;
}

abbrev pub decreases-loop-at : goal.decreases-loop-at
decreases-loop-at l = length l.bytes - l.at
