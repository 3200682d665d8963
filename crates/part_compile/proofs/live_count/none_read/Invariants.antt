use Rattle.std.proofs.Common.{◌≡◌, ℕ, true, false, length, get_or, Contains}
use Rattle.part_compile.proofs.live_count.none_read.Given as goal

abbrev pub invariant-loop-leaf : goal.invariant-loop-leaf
invariant-loop-leaf l = (length l.done.items ≡ l.leaves) × ((y : ℕ) → get_or l.done.items y false ≡ true → Contains l.assignments y)
