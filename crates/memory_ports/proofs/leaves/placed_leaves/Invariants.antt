use Rattle.std.proofs.Common.{◌≡◌, length, take}
use Rattle.memory_ports.specs.Placing.{parts_of}
use Rattle.memory_ports.specs.Keeping.{CountsOf, AreLeaves}
use Rattle.memory_ports.proofs.leaves.placed_leaves.Given as goal

abbrev pub invariant-loop-number : goal.invariant-loop-number
invariant-loop-number l = record {
  counted : length l.placed ≡ l.number;
  counts : CountsOf (take l.number (parts_of l.leaves l.shown)) l.counts;
  are : AreLeaves l.leaves l.shown l.placed;
}
