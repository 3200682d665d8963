use Rattle.std.proofs.Common.{◌≡◌, map, take}
use Rattle.width_fit.specs.Memories.{line_with}
use Rattle.width_fit.proofs.memories.type_with.Given as goal

abbrev pub invariant-loop-line : goal.invariant-loop-line
invariant-loop-line l = l.lines ≡ map (line_with l.element) (take l.line-index l.memory.lines)
