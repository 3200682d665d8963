use Rattle.std.proofs.Common.{◌≡◌, ◌++◌, map, length}
use Rattle.std.specs.Vec.Iter.{into_iter_items}
use Rattle.width_rules.specs.Walks.{bodies_among, ported}
use Rattle.width_solver.proofs.gathering.walk_bodies.Given as goal

abbrev pub invariant-loop-held : goal.invariant-loop-held
invariant-loop-held l = record {
  places : l.fn.found.places.items ++ (bodies_among l.instances.entries (length l.fn.found.places.items) (map ported l.fn.modules.items)).places
      ≡ l.found.places.items ++ (bodies_among l.instances.entries (length l.found.places.items) (map ported (into_iter_items l.held-iterator))).places;
  rules : l.fn.found.rules.items ++ (bodies_among l.instances.entries (length l.fn.found.places.items) (map ported l.fn.modules.items)).rules
      ≡ l.found.rules.items ++ (bodies_among l.instances.entries (length l.found.places.items) (map ported (into_iter_items l.held-iterator))).rules;
}
