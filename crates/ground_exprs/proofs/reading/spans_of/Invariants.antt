use Rattle.std.proofs.Common.{◌≡◌, take}
use Rattle.ground_exprs.specs.Parts.{spans_of}
use Rattle.ground_exprs.proofs.reading.spans_of.Given as goal

abbrev pub invariant-loop-pick : goal.invariant-loop-pick
invariant-loop-pick l = l.spans ≡ spans_of (take l.pick-index l.picks)
