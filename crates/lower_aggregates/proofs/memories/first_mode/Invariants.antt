use Rattle.std.proofs.Common.{◌≡◌, [], filter_map, take}
use Rattle.fir_meaning.specs.MemoryPorts.{port_in}
use Rattle.lower_aggregates.proofs.memories.first_mode.Given as goal

abbrev pub invariant-loop-line : goal.invariant-loop-line
invariant-loop-line l = filter_map port_in (take l.line-index l.lines) ≡ []
