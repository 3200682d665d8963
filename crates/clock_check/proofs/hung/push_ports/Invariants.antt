use Rattle.std.proofs.Common.{◌≡◌, ◌++◌, take}
use Rattle.std.specs.List.{flat_map}
use Rattle.clock_check.specs.Hung.{hung_of, line_hung}
use Rattle.clock_check.proofs.hung.push_ports.Given as goal

abbrev pub invariant-loop-line : goal.invariant-loop-line
invariant-loop-line l = hung_of l.hung.items ≡ hung_of l.fn.hung.items ++ flat_map (line_hung l.memory.name.id) (take l.line-index l.line-items)
