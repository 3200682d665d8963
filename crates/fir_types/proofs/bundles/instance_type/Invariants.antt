use Rattle.std.proofs.Common.{◌≡◌, map, take}
use Rattle.fir_types.specs.Bundles.{instance_field}
use Rattle.fir_types.proofs.bundles.instance_type.Given as goal

abbrev pub invariant-loop-port : goal.invariant-loop-port
invariant-loop-port l = l.fields ≡ map instance_field (take l.port-index l.ports)
