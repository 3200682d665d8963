use Rattle.std.proofs.Common.{◌≡◌, ◌++◌, map}
use Rattle.ground_statements.specs.Targets.{equals, under_condition}
use Rattle.ground_statements.proofs.targets.push_picked.Given as goal

abbrev pub invariant-loop-target : goal.invariant-loop-target
invariant-loop-target l = l.listed ≡ l.fn.listed ++ map (under_condition (equals l.index l.number)) l.yielded
