use Rattle.std.proofs.Common.{◌≡◌, ◌++◌, take}
use Rattle.net_run.specs.Keeping.{zeros_at}
use Rattle.net_run.proofs.beginning.push_zeros.Given as goal

abbrev pub invariant-loop-leaf : goal.invariant-loop-leaf
invariant-loop-leaf l = l.values.items ≡ l.fn.values.items ++ zeros_at l.net (take l.leaf-index l.leaves)
