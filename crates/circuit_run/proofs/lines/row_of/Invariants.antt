use Rattle.std.proofs.Common.{◌≡◌, take, map}
use Rattle.net_run.specs.Seeing.{value_at}
use Rattle.circuit_run.proofs.lines.row_of.Given as goal

abbrev pub invariant-loop-leaf : goal.invariant-loop-leaf
invariant-loop-leaf l = l.row ≡ map (λ p. value_at l.values p.leaf) (take l.leaf-index l.leaves)
