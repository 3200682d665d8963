use Rattle.std.proofs.Common.{◌≡◌, map, take}
use Rattle.width_rules.specs.Formulas.{greatest, width_under}
use Rattle.width_solver.proofs.formula.+width.Given as goal

abbrev pub invariant-greatest_of-loop-part : goal.invariant-greatest_of-loop-part
invariant-greatest_of-loop-part l = l.most ≡ greatest (map (λ part. width_under part l.widths) (take l.part-index l.parts))
