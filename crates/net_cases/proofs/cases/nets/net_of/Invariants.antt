use Rattle.std.proofs.Common.{◌≡◌, length}
use Rattle.base_cases.proofs.Reading.{AllBelow}
use Rattle.net_cases.proofs.cases.nets.net_of.Given as goal

abbrev pub invariant-loop-index : goal.invariant-loop-index
invariant-loop-index l = record {
  count : length l.leaves ≡ l.index;
  below : AllBelow l.count l.drivers;
}
