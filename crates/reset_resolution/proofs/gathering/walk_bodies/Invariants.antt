use Rattle.std.proofs.Common.{◌≡◌, ◌+◌, ◌++◌, map, take, drop}
use Rattle.std.specs.Vec.Iter.{into_iter_items}
use Rattle.reset_search.specs.Feeds.{bodies_from}
use Rattle.reset_resolution.specs.Walked.{listed, ported}
use Rattle.reset_resolution.proofs.gathering.walk_bodies.Given as goal

abbrev pub invariant-loop-held : goal.invariant-loop-held
invariant-loop-held l = record {
  feeds : l.fn.found.feeds ++ (bodies_from (listed l.context.instances.now.entries) l.fn.found.numbered.next l.fn.found.nodes (map ported l.fn.modules.items)).feeds
      ≡ l.found.feeds ++ (bodies_from (listed l.context.instances.now.entries) l.found.numbered.next l.found.nodes (map ported (into_iter_items l.held-iterator))).feeds;
  asyncs : l.fn.found.asyncs ++ (bodies_from (listed l.context.instances.now.entries) l.fn.found.numbered.next l.fn.found.nodes (map ported l.fn.modules.items)).asyncs
      ≡ l.found.asyncs ++ (bodies_from (listed l.context.instances.now.entries) l.found.numbered.next l.found.nodes (map ported (into_iter_items l.held-iterator))).asyncs;
}
