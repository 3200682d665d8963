use Rattle.std.proofs.Common.{◌≡◌, ◌++◌}
use Rattle.ground_statements.specs.Targets.{set_each}
use Rattle.ground_statements.proofs.targets.push_each.Given as goal

abbrev pub invariant-loop-target : goal.invariant-loop-target
invariant-loop-target l = l.made ≡ l.fn.made ++ set_each l.settable l.source l.yielded
