use Rattle.std.proofs.Common.{take}
use Rattle.width_solver.specs.Small.{AskTheSame}
use Rattle.width_solver.proofs.small.small_rules.Given as goal

abbrev pub invariant-loop-rule : goal.invariant-loop-rule
invariant-loop-rule l = AskTheSame l.count (take l.rule-index l.rules) l.small.count l.small.rules.items
