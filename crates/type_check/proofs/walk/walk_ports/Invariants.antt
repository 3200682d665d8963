use Rattle.std.proofs.Common.{take, map}
use Rattle.type_check.specs.Statements.{in_turn, port_walk}
use Rattle.type_check.specs.Walks.{Walks}
use Rattle.type_check.proofs.walk.walk_ports.Given as goal

abbrev pub invariant-loop-port : goal.invariant-loop-port
invariant-loop-port l = Walks (in_turn (map port_walk (take l.port-index l.ports))) l.fn.walk l.walk
