use Rattle.std.proofs.Common.{◌≡◌, ◌+◌, ◌++◌, map, take, drop}
use Rattle.reset_search.specs.Feeds.{node_from}
use Rattle.reset_resolution.proofs.ranges.push_nodes.Given as goal

abbrev pub invariant-loop-offset : goal.invariant-loop-offset
invariant-loop-offset l = l.spots ≡ l.fn.spots ++ node_from l.first l.offset
