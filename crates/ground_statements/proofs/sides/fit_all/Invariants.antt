use Rattle.std.proofs.Common.{List, Option, ◌++◌, drop}
use Rattle.std.specs.Vec.Iter.{into_iter_items}
use Rattle.ground_exprs.specs.declared.source.Source.{Source}
use Rattle.ground_statements.specs.Targets.{AreFits}
use Rattle.ground_statements.proofs.sides.fit_all.Given as goal

abbrev pub invariant-loop-leaf : goal.invariant-loop-leaf
invariant-loop-leaf l = (rest : List (Option Source)) → AreFits l.flip (drop l.leaf-index l.leaves) (into_iter_items l.others) rest → AreFits l.flip l.leaves l.fn.sources (l.fits ++ rest)
