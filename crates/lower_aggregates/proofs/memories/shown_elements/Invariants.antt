use Rattle.std.proofs.Common.{◌≡◌, ◌++◌, map, drop}
use Rattle.lower_aggregates.specs.Elements.{element_row, rows_while}
use Rattle.lower_aggregates.proofs.memories.shown_elements.Given as goal

abbrev pub invariant-loop-leaf : goal.invariant-loop-leaf
invariant-loop-leaf l = map element_row l.elements ++ rows_while l.names l.field (drop l.leaf-index l.listed) ≡ rows_while l.names l.field l.listed
