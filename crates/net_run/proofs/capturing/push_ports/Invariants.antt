use Rattle.std.proofs.Common.{◌≡◌, ◌++◌, take}
use Rattle.net_run.specs.Capturing.{ports_taken}
use Rattle.net_run.proofs.capturing.push_ports.Given as goal

abbrev pub invariant-loop-port : goal.invariant-loop-port
invariant-loop-port l = l.all.items ≡ l.fn.all.items ++ ports_taken l.taking.late l.taking.memory.now l.taking.values.now l.taking.held.now (take l.port-index l.taking.memory.now.ports)
