use Rattle.std.proofs.Common.{◌≡◌, map}
use Rattle.std.specs.List.{range_with_len}
use Rattle.cone_cutter.specs.Loads.{part_by}
use Rattle.cone_cutter.proofs.cutting.parts_of.Given as goal

abbrev pub invariant-loop-number : goal.invariant-loop-number
invariant-loop-number l = l.parts ≡ map (part_by l.owners l.masks l.sequence) (range_with_len 0 l.number)
