use Rattle.std.proofs.Common.{◌≡◌, ◌++◌, map, take, zip}
use Rattle.plain_cycle.specs.Held.{held}
use Rattle.plain_cycle.specs.Layouts.{site_with}
use Rattle.plain_cycle.proofs.layout.push_place.Given as goal

abbrev pub invariant-loop-at : goal.invariant-loop-at
invariant-loop-at l = record {
  sites : l.layout.sites ≡ l.fn.layout.sites ++ map (site_with l.place.path.items) (zip (map held (take l.at l.declared)) (take l.at l.types));
  declared : map held l.layout.declared.items ≡ map held l.fn.layout.declared.items ++ map (λ both. both.0) (zip (map held (take l.at l.declared)) (take l.at l.types));
}
