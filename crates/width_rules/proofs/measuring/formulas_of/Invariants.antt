use Rattle.std.proofs.Common.{◌≡◌, map, take}
use Rattle.width_rules.specs.Sources.{formula_of}
use Rattle.width_rules.proofs.measuring.formulas_of.Given as goal

abbrev pub invariant-loop-slot : goal.invariant-loop-slot
invariant-loop-slot l = l.formulas.items ≡ map formula_of (take l.slot-index l.slots)
