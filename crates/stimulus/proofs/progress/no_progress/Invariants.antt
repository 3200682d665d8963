use Rattle.std.proofs.Common.{◌≡◌, replicate}
use Rattle.std.specs.Prelude.{None}
use Rattle.stimulus.proofs.progress.no_progress.Given as goal

abbrev pub invariant-loop : goal.invariant-loop
invariant-loop l = l.set_in ≡ replicate l.counter None
