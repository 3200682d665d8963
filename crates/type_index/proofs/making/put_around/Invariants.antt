use Rattle.std.proofs.Common.{length}
use Rattle.type_index.proofs.Built.{Around}
use Rattle.type_index.proofs.making.put_around.Given as goal

abbrev pub invariant-loop-length : goal.invariant-loop-length
invariant-loop-length l = Around l.fn.lengths.items l.left.items l.fn.innermost l.index

abbrev pub decreases-loop-length : goal.decreases-loop-length
decreases-loop-length l = length l.left.items
