use Rattle.std.proofs.Common.{◌≡◌, map, take}
use Rattle.type_index.specs.Knowing.{places_of}
use Rattle.type_index.proofs.gathered.weights_of.Given as goal

abbrev pub invariant-loop-part : goal.invariant-loop-part
invariant-loop-part l = l.weights.items ≡ map places_of (take l.part-index l.parts)
