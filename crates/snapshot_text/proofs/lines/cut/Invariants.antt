use Rattle.std.proofs.Common.{◌-◌, ◌≤◌, length, take}
use Rattle.snapshot_text.specs.Steps.{Lacks}
use Rattle.snapshot_text.proofs.lines.cut.Given as goal

abbrev pub invariant-loop-at : goal.invariant-loop-at
invariant-loop-at l = record {
  within : l.at ≤ length l.bytes;
  lacks : Lacks l.byte (take l.at l.bytes);
}

abbrev pub decreases-loop-at : goal.decreases-loop-at
decreases-loop-at l = length l.bytes - l.at
