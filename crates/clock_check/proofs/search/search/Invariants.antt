use Rattle.std.proofs.Common.{◌≤◌, ◌^◌}
use Rattle.clock_check.specs.Flats.{leaf_of_flat}
use Rattle.clock_check.proofs.Searching.{Searched}
use Rattle.clock_check.proofs.search.search.Given as goal

-- no set has more than so many leaves
abbrev pub invariant-loop-at : goal.invariant-loop-at
invariant-loop-at l = Searched l.sinks.sinks.entries (leaf_of_flat l.fn.root) l.found.keys.keys l.at × (l.at ≤ 2 ^ 63)
