use Rattle.std.proofs.Common.{◌≡◌, ◌++◌, take}
use Rattle.std.specs.List.{flat_map}
use Rattle.drive_check.specs.HeldTypes.{types_in}
use Rattle.clock_check.specs.Driving.{driver_of}
use Rattle.clock_check.specs.Edges.{edges_of, walked}
use Rattle.clock_check.proofs.walk.push_all.Given as goal

abbrev pub invariant-loop-statement : goal.invariant-loop-statement
invariant-loop-statement l = edges_of l.links.items ≡ edges_of l.fn.links.items ++ flat_map (λ s. (walked (types_in l.types) s).own (driver_of l.drivers.known.entries)) (take l.statement-index l.statements)
