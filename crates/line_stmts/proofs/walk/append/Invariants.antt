use Rattle.std.proofs.Common.{◌≡◌, ◌++◌}
use Rattle.line_stmts.proofs.walk.append.Given as goal

abbrev pub invariant-loop-statement : goal.invariant-loop-statement
invariant-loop-statement l = l.made ≡ l.fn.made ++ l.yielded
