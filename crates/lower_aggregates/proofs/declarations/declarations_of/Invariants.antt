use Rattle.std.proofs.Common.{◌≡◌, map, take}
use Rattle.lower_aggregates.specs.Headings.{port_heading}
use Rattle.lower_aggregates.specs.Held.{held_heading}
use Rattle.lower_aggregates.proofs.declarations.declarations_of.Given as goal

abbrev pub invariant-loop-port : goal.invariant-loop-port
invariant-loop-port l = map held_heading l.all.items ≡ map port_heading (take l.port-index l.port-items)
