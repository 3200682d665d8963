use Rattle.std.proofs.Common.{ℕ, ◌<◌}
use Rattle.ground_net.specs.Naming.{IsNamed}
use Rattle.ground_net.proofs.naming.find_leaf.Given as goal

abbrev pub invariant-loop-number : goal.invariant-loop-number
invariant-loop-number l = (y : ℕ) → y < l.number → IsNamed l.net l.name y → ⊥
