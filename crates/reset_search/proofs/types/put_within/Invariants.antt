use Rattle.std.proofs.Common.{◌≡◌, length}
use Rattle.fir_types.specs.Runs.{within}
use Rattle.reset_search.proofs.types.put_within.Given as goal

abbrev pub invariant-loop-place : goal.invariant-loop-place
invariant-loop-place l = within l.left.items l.whole ≡ within l.fn.lengths.items l.fn.typ

abbrev pub decreases-loop-place : goal.decreases-loop-place
decreases-loop-place l = length l.left.items
