use Rattle.std.proofs.Common.{◌≡◌, map, take}
use Rattle.std.specs.List.{flat_map}
use Rattle.drive_check.specs.HeldTypes.{types_in}
use Rattle.drive_check.specs.Keys.{leaf_of_key}
use Rattle.one_clock.specs.Modules.{port_inputs}
use Rattle.one_clock.proofs.module_clocks.inputs_of.Given as goal

abbrev pub invariant-loop-port : goal.invariant-loop-port
invariant-loop-port l = map leaf_of_key l.inputs.items ≡ flat_map (port_inputs (types_in l.types)) (take l.port-index l.ports)
