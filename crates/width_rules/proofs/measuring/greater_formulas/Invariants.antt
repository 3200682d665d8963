use Rattle.std.proofs.Common.{◌≡◌, ◌++◌, map, zip}
use Rattle.std.specs.Vec.Iter.{into_iter_items}
use Rattle.width_rules.specs.Sources.{greater_of}
use Rattle.width_rules.proofs.measuring.greater_formulas.Given as goal

abbrev pub invariant-loop-formula : goal.invariant-loop-formula
invariant-loop-formula l = map greater_of (zip l.fn.first l.fn.second) ≡ l.greater ++ map greater_of (zip (into_iter_items l.formula-iterator) (into_iter_items l.others))
