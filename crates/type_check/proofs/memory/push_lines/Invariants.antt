use Rattle.std.proofs.Common.{◌≡◌, ◌++◌, take}
use Rattle.std.specs.List.{flat_map}
use Rattle.type_check.specs.Memories.{line_faults}
use Rattle.type_check.proofs.memory.push_lines.Given as goal

abbrev pub invariant-loop-line : goal.invariant-loop-line
invariant-loop-line l = l.faults.items ≡ l.fn.faults.items ++ flat_map line_faults (take l.line-index l.lines)
