use Rattle.std.proofs.Common.{◌≡◌, map, take}
use Rattle.crew_run.proofs.crew.numbers_of.Given as goal

abbrev pub invariant-loop-leaf : goal.invariant-loop-leaf
invariant-loop-leaf l = l.numbers ≡ map (λ p. p.leaf) (take l.leaf-index l.leaves)
