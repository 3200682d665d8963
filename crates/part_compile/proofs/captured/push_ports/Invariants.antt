use Rattle.std.proofs.Common.{◌≡◌, ◌++◌, take}
use Rattle.part_compile.specs.KeptRows.{told_by_ports}
use Rattle.part_compile.proofs.captured.push_ports.Given as goal

abbrev pub invariant-loop-port : goal.invariant-loop-port
invariant-loop-port l = l.reads ≡ l.fn.reads ++ told_by_ports l.memory (take l.port-index l.ports)
