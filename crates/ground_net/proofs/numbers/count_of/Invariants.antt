use Rattle.std.proofs.Common.{◌≡◌, ◌≤◌, ◌^◌, ◌-◌, ◌*◌, min, drop}
use Rattle.ground_net.specs.Grounds.{element_count}
use Rattle.ground_net.specs.Numbers.{span_lengths}
use Rattle.ground_net.proofs.numbers.count_of.Given as goal

abbrev pub invariant-loop-span : goal.invariant-loop-span
invariant-loop-span l = record {
  same : min (l.count * element_count (span_lengths (drop l.span-index l.spans))) (2 ^ 128 - 1) ≡ min (element_count (span_lengths l.spans)) (2 ^ 128 - 1);
  few : l.count ≤ 2 ^ 128 - 1;
}
