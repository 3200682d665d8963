use Rattle.std.proofs.Common.{◌≡◌, map, take}
use Rattle.flatten_instances.specs.Numbers.{port_with}
use Rattle.flatten_instances.proofs.memories.flat_ports.Given as goal

abbrev pub invariant-loop-port : goal.invariant-loop-port
invariant-loop-port l = l.flat ≡ map (port_with l.numbers) (take l.port-index l.ports)
