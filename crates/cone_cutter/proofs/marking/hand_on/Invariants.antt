use Rattle.std.proofs.Common.{◌≤◌, length}
use Rattle.cone_cutter.specs.Marks.{HandsOn}
use Rattle.cone_cutter.proofs.marking.hand_on.Given as goal

abbrev pub invariant-back : goal.invariant-back
invariant-back l = record {
  hands : HandsOn l.reads l.sequence l.place l.fn.marks l.marks;
  within : l.place ≤ length l.sequence;
}

abbrev pub decreases-back : goal.decreases-back
decreases-back l = l.place
