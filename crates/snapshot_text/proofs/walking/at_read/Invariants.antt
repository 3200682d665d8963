use Rattle.std.proofs.Common.{◌≡◌, ◌-◌, length}
use Rattle.snapshot_text.specs.Steps.{IsSame}
use Rattle.snapshot_text.proofs.walking.at_read.Given as goal

abbrev pub invariant-leaves : goal.invariant-leaves
invariant-leaves l = record {
  same : IsSame l.initial.at l.at;
  register : l.at.register ≡ l.initial.at.register;
  memory : l.at.memory ≡ l.initial.at.memory;
}

abbrev pub decreases-leaves : goal.decreases-leaves
decreases-leaves l = length l.at.net.now.leaves - l.at.read
