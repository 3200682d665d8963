use Rattle.std.proofs.Common.{◌≤◌}
use Rattle.cone_cutter.proofs.LoadSteps.{CountsBits}
use Rattle.cone_cutter.proofs.loads.count_bits.Given as goal

abbrev pub invariant-bits : goal.invariant-bits
invariant-bits l = record {
  counts : CountsBits l.weight l.fn.shared l.mask l.shared l.rest;
  few : l.rest ≤ l.mask;
}

abbrev pub decreases-bits : goal.decreases-bits
decreases-bits l = l.rest
