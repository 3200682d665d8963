use Rattle.std.proofs.Common.{◌≡◌, ◌+◌, filter_map, take}
use Rattle.fir_meaning.specs.MemoryPorts.{port_in}
use Rattle.lower_aggregates.specs.Memories.{ports_from, size_of_ports, reading_of}
use Rattle.lower_aggregates.proofs.memories.ports_of.Given as goal

abbrev pub invariant-loop-line : goal.invariant-loop-line
invariant-loop-line l = record {
  ports : l.ports ≡ ports_from l.first l.count (reading_of l.memory) (filter_map port_in (take l.line-index l.lines));
  number : l.number ≡ l.first + size_of_ports l.count (filter_map port_in (take l.line-index l.lines));
}
