use Rattle.std.proofs.Common.{◌≡◌, ◌+◌, ◌*◌, ◌^◌}
use Rattle.fir_tree.specs.Caps.{cap}
use Rattle.fir_tree.proofs.Wording.{beyond}
use Rattle.fir_tree.proofs.name_sizes.index_bytes.Given as goal

abbrev pub invariant-loop : goal.invariant-loop
invariant-loop l = record {
  power : l.power ≡ cap (10 ^ l.counter);
  total : l.total ≡ cap (l.length * 3 + beyond l.counter l.length);
}
