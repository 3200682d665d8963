use Rattle.std.proofs.Common.{◌≡◌, ◌++◌, take, map}
use Rattle.std.specs.List.{flat_map}
use Rattle.fir_names.specs.Namespaces.{unknown}
use Rattle.fir_names.specs.Walks.{number_in, fault_in}
use Rattle.fir_names.proofs.walk.look_up.Given as goal

abbrev pub invariant-loop-name : goal.invariant-loop-name
invariant-loop-name l = record {
  numbers : l.numbers.items ≡ l.fn.numbers.items ++ map (number_in l.known.entries) (take l.name-index l.names);
  faults : l.faults.items ≡ l.fn.faults.items ++ flat_map (fault_in (unknown l.space) l.known.entries) (take l.name-index l.names);
}
