use Rattle.std.proofs.Common.{◌≡◌, length, map, take}
use Rattle.cut_refine.specs.Standing.{AreParted}
use Rattle.cut_refine.proofs.standing.Standing.of_parts.Given as goal

abbrev pub invariant-loop-number : goal.invariant-loop-number
invariant-loop-number l = record {
  owners : length l.owners.items ≡ l.sinks;
  masks : length l.masks.items ≡ l.leaves;
  costs : l.costs.items ≡ map (λ part. length part.assignments) (take l.number l.parts);
  parted : AreParted l.number l.parts l.owners.items l.masks.items;
}
