use Rattle.std.proofs.Common.{◌≡◌, take}
use Rattle.net_run.specs.Writing.{over_ports}
use Rattle.net_run.proofs.writing.write_ports.Given as goal

abbrev pub invariant-loop-port : goal.invariant-loop-port
invariant-loop-port l = l.held.items ≡ over_ports l.memory l.values (take l.port-index l.memory.ports) l.fn.held.items
