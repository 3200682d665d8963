use Rattle.std.proofs.Common.{◌≡◌}
use Rattle.net_run.specs.Capturing.{memories_taken}
use Rattle.net_run.proofs.capturing.taken.Given as goal

abbrev pub invariant-loop-number : goal.invariant-loop-number
invariant-loop-number l = l.all.items ≡ memories_taken l.late l.net.memories l.values l.contents l.number
