use Rattle.std.proofs.Common.{◌≡◌, map, take, pos}
use Rattle.fir_meaning.specs.Values.{fitted_to}
use Rattle.plain_values.proofs.evaluating.zeros.Given as goal

abbrev pub invariant-loop-leaf : goal.invariant-loop-leaf
invariant-loop-leaf l = l.values ≡ map (λ leaf. fitted_to leaf (pos 0)) (take l.leaf-index l.leaves)
