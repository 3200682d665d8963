use Rattle.std.proofs.Common.{List, ◌++◌}
use Rattle.std.specs.Vec.Iter.{into_iter_items}
use Rattle.ground_exprs.specs.declared.source.Source.{Source}
use Rattle.ground_exprs.specs.Choices.{AreChosen}
use Rattle.ground_exprs.proofs.choice.chosen.Given as goal

abbrev pub invariant-loop-source : goal.invariant-loop-source
invariant-loop-source l = (rest : List Source) → AreChosen l.condition.expr (into_iter_items l.source-iterator) (into_iter_items l.others) rest → AreChosen l.condition.expr l.fn.first l.fn.second (l.sources ++ rest)
