use Rattle.std.proofs.Common.{◌≡◌, ◌++◌}
use Rattle.ground_statements.proofs.connects.behind.Given as goal

abbrev pub invariant-loop-statement : goal.invariant-loop-statement
invariant-loop-statement l = l.made ≡ l.fn.first ++ l.yielded
