use Rattle.std.proofs.Common.{◌≡◌, ◌+◌, ◌++◌, map, take, drop}
use Rattle.reset_search.specs.Feeds.{declared_from}
use Rattle.reset_resolution.proofs.ranges.push_declared.Given as goal

abbrev pub invariant-loop-offset : goal.invariant-loop-offset
invariant-loop-offset l = l.spots ≡ l.fn.spots ++ declared_from l.first l.offset
