use Rattle.std.proofs.Common.{◌≡◌, ◌++◌}
use Rattle.net_run.specs.Capturing.{leaves_taken}
use Rattle.net_run.proofs.capturing.push_leaves.Given as goal

abbrev pub invariant-loop-leaf : goal.invariant-loop-leaf
invariant-loop-leaf l = l.all.items ≡ l.fn.all.items ++ leaves_taken l.taking.late l.read.after l.taking.memory.now l.taking.held.now l.reading l.address l.leaf
