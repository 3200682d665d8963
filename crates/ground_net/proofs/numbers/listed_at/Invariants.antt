use Rattle.std.proofs.Common.{length, drop, ◌-◌, ◌≡◌, ◌^◌, slice_get, ◌+◌, ◌*◌, ◌≤◌}
use Rattle.ground_net.specs.Numbers.{listed}
use Rattle.ground_net.proofs.numbers.listed_at.Given as goal

abbrev pub invariant-loop-at : goal.invariant-loop-at
invariant-loop-at l = record {
  same : slice_get (listed (drop l.at l.spans) l.number) l.left ≡ slice_get (listed l.spans l.first) l.place;
  room : l.number + l.left * 2 ^ 32 ≤ l.first + l.place * 2 ^ 32;
  few : l.left ≤ l.place;
}

abbrev pub decreases-loop-at : goal.decreases-loop-at
decreases-loop-at l = length l.spans - l.at
