use Rattle.std.proofs.Common.{◌≡◌, ◌+◌, ◌++◌, map, take, drop}
use Rattle.reset_search.specs.Feeds.{fed_by}
use Rattle.reset_resolution.proofs.ranges.push_fed.Given as goal

abbrev pub invariant-loop-source : goal.invariant-loop-source
invariant-loop-source l = l.fn.feeds ++ fed_by l.sources l.owns ≡ l.feeds ++ fed_by (drop l.source-index l.sources) l.rest
