use Rattle.std.proofs.Common.{◌≡◌, map, take}
use Rattle.fir_meaning.specs.Components.{declared_by_port}
use Rattle.plain_cycle.specs.Held.{held, kept_of}
use Rattle.plain_cycle.proofs.declarations.declarations_of.Given as goal

abbrev pub invariant-loop-port : goal.invariant-loop-port
invariant-loop-port l = map held l.all.items ≡ map kept_of (map (declared_by_port l.body) (take l.port-index l.port-items))
