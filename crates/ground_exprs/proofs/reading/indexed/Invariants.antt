use Rattle.std.proofs.Common.{◌≡◌, take}
use Rattle.ground_exprs.specs.Parts.{indices_of, lengths_of}
use Rattle.ground_exprs.proofs.reading.indexed.Given as goal

abbrev pub invariant-loop-pick : goal.invariant-loop-pick
invariant-loop-pick l = (l.indices ≡ indices_of (take l.pick-index l.picks)) × (l.lengths ≡ lengths_of (take l.pick-index l.picks))
