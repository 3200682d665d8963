use Rattle.std.proofs.Common.{◌≡◌, ◌++◌, take}
use Rattle.net_run.specs.Keeping.{zeros_of_ports}
use Rattle.net_run.proofs.beginning.push_ports.Given as goal

abbrev pub invariant-loop-port : goal.invariant-loop-port
invariant-loop-port l = l.values.items ≡ l.fn.values.items ++ zeros_of_ports l.net (take l.port-index l.ports)
