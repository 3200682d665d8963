use Rattle.std.proofs.Common.{◌≡◌, ◌++◌, List, map, length}
use Rattle.std.specs.Prelude.{reverse}
use Rattle.std.specs.List.{list_all}
use Rattle.ground_net.specs.declared.ground.Ground.{Ground}
use Rattle.ground_net.specs.declared.ground.Ground.TheVariants.{Mux}
use Rattle.ground_net.specs.Grounds.{mentions, joined}
use Rattle.ground_net.specs.StatementShapes.{is_condition}
use Rattle.expand_whens.specs.Ways.{none_hold, IsBit}
use Rattle.expand_whens.proofs.guard.none_of.Given as goal

abbrev pub invariant-loop-condition : goal.invariant-loop-condition
invariant-loop-condition l = (done : List Ground) × (l.fn.refused.items ≡ l.refused.items ++ done)
    × IsBit (λ instant. none_hold instant done) (joined (map mentions done)) (λ table. list_all (is_condition table) done) (Mux (reverse l.items.items))

abbrev pub decreases-loop-condition : goal.decreases-loop-condition
decreases-loop-condition l = length l.refused.items
