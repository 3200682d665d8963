use Rattle.std.proofs.Common.{◌≡◌, ◌+◌, ◌++◌, map, take, drop}
use Rattle.reset_search.specs.Feeds.{asyncs_among}
use Rattle.reset_resolution.proofs.ranges.push_asyncs.Given as goal

abbrev pub invariant-loop-ground : goal.invariant-loop-ground
invariant-loop-ground l = l.fn.asyncs ++ asyncs_among l.grounds l.spots ≡ l.asyncs ++ asyncs_among (drop l.ground-index l.grounds) l.rest
