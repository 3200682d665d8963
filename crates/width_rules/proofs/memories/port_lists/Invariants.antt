use Rattle.std.proofs.Common.{◌≡◌, ◌++◌, take}
use Rattle.std.specs.List.{flat_map}
use Rattle.width_rules.specs.Pieces.{line_lists}
use Rattle.width_rules.proofs.memories.port_lists.Given as goal

abbrev pub invariant-loop-line : goal.invariant-loop-line
invariant-loop-line l = l.lists ≡ l.fn.before ++ flat_map (line_lists l.widths) (take l.line-index l.lines)
