use Rattle.std.proofs.Common.{◌≡◌, take, map}
use Rattle.circuit_run.proofs.lines.names_of.Given as goal

abbrev pub invariant-loop-leaf : goal.invariant-loop-leaf
invariant-loop-leaf l = l.names ≡ map (λ p. p.name) (take l.leaf-index l.leaves)
