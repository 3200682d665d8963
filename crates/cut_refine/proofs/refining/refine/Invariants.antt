use Rattle.std.proofs.Common.{◌≡◌, length}
use Rattle.ground_net.specs.Cones.{sinks}
use Rattle.cut_refine.specs.Standing.{Stands, IsLook, IsUnderWay}
use Rattle.cut_refine.proofs.refining.refine.Given as goal

abbrev pub invariant-refining : goal.invariant-refining
invariant-refining l = record {
  stands : Stands l.rows l.standing;
  count : length l.standing.costs.items ≡ length l.start.parts;
  look : IsLook l.rows l.standing l.look;
  way : IsUnderWay l.rows (length (sinks l.ordered.net l.watch)) l.start.parts l.standing.owners.items;
}

abbrev pub decreases-refining : goal.decreases-refining
decreases-refining l = l.look.greatest
