use Rattle.std.proofs.Common.{◌≡◌, ◌++◌, length}
use Rattle.width_rules.specs.Pieces.{slots_in}
use Rattle.width_rules.proofs.pieces.listed.Given as goal

abbrev pub invariant-loop-piece : goal.invariant-loop-piece
invariant-loop-piece l = slots_in l.fn.slots ≡ l.found ++ slots_in l.rest

abbrev pub decreases-loop-piece : goal.decreases-loop-piece
decreases-loop-piece l = length (slots_in l.rest)
