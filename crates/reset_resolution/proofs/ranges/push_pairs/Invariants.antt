use Rattle.std.proofs.Common.{◌≡◌, ◌+◌, ◌++◌, map, take, drop}
use Rattle.reset_search.specs.Feeds.{pairs}
use Rattle.reset_resolution.proofs.ranges.push_pairs.Given as goal

abbrev pub invariant-loop-ground : goal.invariant-loop-ground
invariant-loop-ground l = l.fn.feeds ++ pairs l.grounds l.left l.right ≡ l.feeds ++ pairs (drop l.ground-index l.grounds) l.lefts l.rights
