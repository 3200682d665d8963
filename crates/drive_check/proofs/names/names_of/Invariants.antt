use Rattle.std.proofs.Common.{◌≡◌, map, take}
use Rattle.drive_check.proofs.names.names_of.Given as goal

abbrev pub invariant-loop-port : goal.invariant-loop-port
invariant-loop-port l = l.names.items ≡ map (λ port. port.name) (take l.port-index l.port-items)
