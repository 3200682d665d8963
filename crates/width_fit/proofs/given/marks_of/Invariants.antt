use Rattle.std.proofs.Common.{take}
use Rattle.width_fit.specs.Marks.{Marks}
use Rattle.width_fit.proofs.given.marks_of.Given as goal

abbrev pub invariant-loop-rule : goal.invariant-loop-rule
invariant-loop-rule l = Marks (take l.rule-index l.rules) l.marks.items
