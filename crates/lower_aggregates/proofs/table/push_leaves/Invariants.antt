use Rattle.std.proofs.Common.{◌≡◌, ◌++◌, map, take}
use Rattle.lower_aggregates.specs.Tables.{leaf_row, row_of_leaf}
use Rattle.lower_aggregates.proofs.table.push_leaves.Given as goal

abbrev pub invariant-loop-leaf : goal.invariant-loop-leaf
invariant-loop-leaf l = map leaf_row l.table ≡ map leaf_row l.fn.table ++ map (row_of_leaf l.names l.piece) (take l.leaf-index l.leaf-items)
