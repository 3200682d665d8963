use Rattle.std.proofs.Common.{take}
use Rattle.reset_search.proofs.Searching.{Adds}
use Rattle.reset_search.proofs.search.push_all.Given as goal

abbrev pub invariant-loop-key : goal.invariant-loop-key
invariant-loop-key l = Adds l.fn.found.keys.keys (take l.key-index l.keys) l.found.keys.keys
