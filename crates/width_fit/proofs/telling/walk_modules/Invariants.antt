use Rattle.std.proofs.Common.{◌≡◌, ◌++◌, map, length}
use Rattle.std.specs.Vec.Iter.{into_iter_items}
use Rattle.width_rules.specs.Walks.{ported}
use Rattle.width_fit.specs.Walks.{solved, told_among}
use Rattle.width_fit.proofs.telling.walk_modules.Given as goal

abbrev pub invariant-loop-held : goal.invariant-loop-held
invariant-loop-held l = record {
  declared : l.fn.walk.declared.items ++ (told_among (solved l.given) l.given.instances.components.entries (length l.fn.walk.places.items) (map ported l.fn.modules.items) l.reached).declared
      ≡ l.walk.declared.items ++ (told_among (solved l.given) l.given.instances.components.entries (length l.walk.places.items) (map ported (into_iter_items l.held-iterator)) l.rest).declared;
  nodes : l.fn.walk.found.nodes.items ++ (told_among (solved l.given) l.given.instances.components.entries (length l.fn.walk.places.items) (map ported l.fn.modules.items) l.reached).nodes
      ≡ l.walk.found.nodes.items ++ (told_among (solved l.given) l.given.instances.components.entries (length l.walk.places.items) (map ported (into_iter_items l.held-iterator)) l.rest).nodes;
  faults : l.fn.walk.found.faults.items ++ (told_among (solved l.given) l.given.instances.components.entries (length l.fn.walk.places.items) (map ported l.fn.modules.items) l.reached).faults
      ≡ l.walk.found.faults.items ++ (told_among (solved l.given) l.given.instances.components.entries (length l.walk.places.items) (map ported (into_iter_items l.held-iterator)) l.rest).faults;
}
