use Rattle.std.proofs.Common.{take}
use Rattle.clock_check.proofs.Searching.{Adds}
use Rattle.clock_check.proofs.search.push_all.Given as goal

abbrev pub invariant-loop-key : goal.invariant-loop-key
invariant-loop-key l = Adds l.fn.found.keys.keys (take l.key-index l.leaves) l.found.keys.keys
