use Rattle.std.proofs.Common.{◌≡◌, map, sum, take}
use Rattle.fir_types.specs.Leaves.{count}
use Rattle.size_check.specs.Caps.{cap}
use Rattle.size_check.proofs.measuring.port_leaves.Given as goal

abbrev pub invariant-loop-port : goal.invariant-loop-port
invariant-loop-port l = l.total ≡ cap (sum (map (λ port. count port.typ) (take l.port-index l.ports)))
