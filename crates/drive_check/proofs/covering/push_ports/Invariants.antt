use Rattle.std.proofs.Common.{◌≡◌, ◌++◌, take}
use Rattle.std.specs.List.{flat_map}
use Rattle.drive_check.specs.HeldTypes.{types_in}
use Rattle.drive_check.specs.Keys.{is_among}
use Rattle.drive_check.specs.Modules.{port_faults}
use Rattle.drive_check.proofs.covering.push_ports.Given as goal

abbrev pub invariant-loop-port : goal.invariant-loop-port
invariant-loop-port l = l.faults.items ≡ l.fn.faults.items ++ flat_map (port_faults (types_in l.types) (is_among l.certain.keys.keys)) (take l.port-index l.ports)
