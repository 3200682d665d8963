use Rattle.std.proofs.Common.{length}
use Rattle.type_index.specs.Sights.{Grows}
use Rattle.type_index.proofs.noting.note_around.Given as goal

abbrev pub invariant-loop-length : goal.invariant-loop-length
invariant-loop-length l = Grows l.fn.classes l.classes

abbrev pub decreases-loop-length : goal.decreases-loop-length
decreases-loop-length l = length l.left.items
