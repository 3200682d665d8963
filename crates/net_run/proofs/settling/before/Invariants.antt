use Rattle.std.proofs.Common.{◌≡◌, take, map}
use Rattle.net_run.specs.Keeping.{before_assignments}
use Rattle.net_run.proofs.settling.before.Given as goal

abbrev pub invariant-loop-leaf : goal.invariant-loop-leaf
invariant-loop-leaf l = l.values.items ≡ map (λ leaf. before_assignments l.kept l.inputs leaf leaf.role) (take l.leaf-index l.net.leaves)
