use Rattle.std.proofs.Common.{◌≡◌, ◌-◌, ◌≤◌, length}
use Rattle.cone_cutter.proofs.TallySteps.{Carries}
use Rattle.cone_cutter.proofs.tallies.add_mask.Given as goal

abbrev pub invariant-carrying : goal.invariant-carrying
invariant-carrying l = record {
  carries : Carries l.fn.planes l.mask l.planes l.digit l.carry;
  within : l.digit ≤ length l.planes;
  long : length l.planes ≡ length l.fn.planes;
}

abbrev pub decreases-carrying : goal.decreases-carrying
decreases-carrying l = length l.planes - l.digit
