use Rattle.std.proofs.Common.{take, map}
use Rattle.reset_search.specs.Rows.{number}
use Rattle.reset_search.proofs.Searching.{Adds}
use Rattle.reset_search.proofs.search.push_starts.Given as goal

abbrev pub invariant-loop-spot : goal.invariant-loop-spot
invariant-loop-spot l = Adds l.fn.found.keys.keys (map number (take l.spot-index l.starts)) l.found.keys.keys
