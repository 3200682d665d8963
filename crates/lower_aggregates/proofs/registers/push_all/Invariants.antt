use Rattle.std.proofs.Common.{◌≡◌, ◌++◌}
use Rattle.lower_aggregates.proofs.registers.push_all.Given as goal

abbrev pub invariant-loop-register : goal.invariant-loop-register
invariant-loop-register l = l.registers ≡ l.fn.registers ++ l.yielded
