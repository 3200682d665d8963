use Rattle.std.proofs.Common.{◌≡◌}
use Rattle.net_run.specs.Capturing.{all_taken}
use Rattle.net_run.proofs.capturing.both_taken.Given as goal

abbrev pub invariant-loop-number : goal.invariant-loop-number
invariant-loop-number l = l.values.items ≡ all_taken l.old l.new l.number
