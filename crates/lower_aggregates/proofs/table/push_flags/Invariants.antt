use Rattle.std.proofs.Common.{◌≡◌, ◌++◌, map, take}
use Rattle.lower_aggregates.specs.Tables.{is_set_in}
use Rattle.lower_aggregates.proofs.table.push_flags.Given as goal

abbrev pub invariant-loop-leaf : goal.invariant-loop-leaf
invariant-loop-leaf l = l.flags.items ≡ l.fn.flags.items ++ map (is_set_in l.piece.sort) (take l.leaf-index l.leaf-items)
