use Rattle.net_run.specs.Keeping.{before_all}
use Rattle.net_run.proofs.Steps.{IsDone}
use Rattle.net_run.proofs.settling.settle.Given as goal

abbrev pub invariant-loop-leaf : goal.invariant-loop-leaf
invariant-loop-leaf l = IsDone l.ordered.net l.kept.contents l.ordered.sequence (before_all l.ordered.net l.kept l.inputs) l.values.items l.leaf-index
