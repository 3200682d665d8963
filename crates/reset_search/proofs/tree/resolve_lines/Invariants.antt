use Rattle.std.proofs.Common.{◌≡◌, map, take}
use Rattle.reset_search.specs.Resolved.{with_element}
use Rattle.reset_search.specs.Rows.{marked}
use Rattle.reset_search.proofs.tree.resolve_lines.Given as goal

abbrev pub invariant-loop-line : goal.invariant-loop-line
invariant-loop-line l = l.made ≡ map (with_element (marked l.marks.keys.keys) l.first) (take l.line-index l.lines)
