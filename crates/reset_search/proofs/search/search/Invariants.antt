use Rattle.std.proofs.Common.{◌≤◌, ◌^◌}
use Rattle.reset_search.proofs.Searching.{Searched}
use Rattle.reset_search.proofs.search.search.Given as goal

-- no set has more than so many
abbrev pub invariant-loop-at : goal.invariant-loop-at
invariant-loop-at l = Searched l.rows.rows.entries l.starts l.found.keys.keys l.at × (l.at ≤ 2 ^ 63)
