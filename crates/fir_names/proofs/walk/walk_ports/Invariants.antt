use Rattle.std.proofs.Common.{take, map}
use Rattle.fir_names.specs.Parts.{in_turn, declares}
use Rattle.fir_names.specs.Walks.{Walks}
use Rattle.fir_names.proofs.walk.walk_ports.Given as goal

abbrev pub invariant-loop-port : goal.invariant-loop-port
invariant-loop-port l = Walks (in_turn (map (λ p. declares p.name) (take l.port-index l.ports))) l.fn.walk l.walk
