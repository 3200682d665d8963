use Rattle.std.proofs.Common.{◌≡◌, map, take}
use Rattle.size_check.specs.Caps.{capped}
use Rattle.size_check.specs.Measures.{together}
use Rattle.size_check.specs.Owns.{port_own}
use Rattle.size_check.proofs.owns.ports_own.Given as goal

abbrev pub invariant-loop-port : goal.invariant-loop-port
invariant-loop-port l = l.total ≡ capped (together (map (port_own l.names) (take l.port-index l.ports)))
