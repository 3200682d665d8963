use Rattle.std.proofs.Common.{◌≡◌, map, take}
use Rattle.lower_aggregates.specs.Elements.{element_row, own_row}
use Rattle.lower_aggregates.proofs.memories.plain_elements.Given as goal

abbrev pub invariant-loop-leaf : goal.invariant-loop-leaf
invariant-loop-leaf l = map element_row l.elements ≡ map (own_row l.names) (take l.leaf-index l.listed)
