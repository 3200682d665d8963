use Rattle.std.proofs.Common.{◌≡◌, ◌-◌, length}
use Rattle.snapshot_text.specs.Steps.{IsSame}
use Rattle.snapshot_text.proofs.walking.at_element.Given as goal

abbrev pub invariant-memories : goal.invariant-memories
invariant-memories l = record {
  same : IsSame l.initial.at l.at;
  register : l.at.register ≡ l.initial.at.register;
}

abbrev pub decreases-memories : goal.decreases-memories
decreases-memories l = length l.at.net.now.memories - l.at.memory
