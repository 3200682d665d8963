use Rattle.std.proofs.Common.{◌≡◌, ◌++◌, take}
use Rattle.comb_order.specs.Spreads.{assignments_among}
use Rattle.comb_order.proofs.spread.push_leaves.Given as goal

abbrev pub invariant-loop-number : goal.invariant-loop-number
invariant-loop-number l = l.row ≡ l.fn.row ++ assignments_among l.leaves (take l.number-index l.numbers)
