use Rattle.std.proofs.Common.{◌≡◌, map, take, length}
use Rattle.comb_order.proofs.tables.lengths.Given as goal

abbrev pub invariant-loop-row : goal.invariant-loop-row
invariant-loop-row l = l.left.items ≡ map (λ row. length row.items) (take l.row-index l.reads)
