use Rattle.std.proofs.Common.{◌≡◌, map, take}
use Rattle.cut_listing.proofs.refined_listing.numbers_of.Given as goal

abbrev pub invariant-loop-leaf : goal.invariant-loop-leaf
invariant-loop-leaf l = l.numbers.items ≡ map (λ p. p.leaf) (take l.leaf-index l.leaves)
