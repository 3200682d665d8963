use Rattle.std.proofs.Common.{◌≡◌, length}
use Rattle.width_rules.specs.Pieces.{slots_in}
use Rattle.width_rules.specs.Targets.{has_variable}
use Rattle.width_rules.proofs.measuring.part_varies.Given as goal

abbrev pub invariant-loop-piece : goal.invariant-loop-piece
invariant-loop-piece l = has_variable (slots_in l.fn.view.slots) ≡ has_variable (slots_in l.rest)

abbrev pub decreases-loop-piece : goal.decreases-loop-piece
decreases-loop-piece l = length (slots_in l.rest)
