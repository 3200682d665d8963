use Rattle.std.proofs.Common.{length}
use Rattle.type_index.specs.Sights.{table_of}
use Rattle.type_index.proofs.Made.{Around}
use Rattle.type_index.proofs.numbering.number_around.Given as goal

abbrev pub invariant-loop-length : goal.invariant-loop-length
invariant-loop-length l = Around (table_of l.classes) l.fn.lengths.items l.left.items l.fn.innermost l.class

abbrev pub decreases-loop-length : goal.decreases-loop-length
decreases-loop-length l = length l.left.items
