use Rattle.std.proofs.Common.{◌≡◌, ◌++◌, ◌&&◌, List, map, length}
use Rattle.std.specs.List.{list_all}
use Rattle.ground_net.specs.declared.ground.Ground.{Ground}
use Rattle.ground_net.specs.Grounds.{mentions, joined}
use Rattle.ground_net.specs.Statements.{all_hold}
use Rattle.ground_net.specs.StatementShapes.{is_condition}
use Rattle.expand_whens.specs.Ways.{none_hold, IsBit}
use Rattle.expand_whens.proofs.guard.closed.Given as goal

abbrev pub invariant-loop-condition : goal.invariant-loop-condition
invariant-loop-condition l = (done : List Ground) × (l.fn.part.accepted.items ≡ l.accepted.items ++ done)
    × IsBit (λ instant. none_hold instant l.fn.part.refused.items && all_hold instant done) (joined (map mentions l.fn.part.refused.items) ++ joined (map mentions done))
    (λ table. list_all (is_condition table) l.fn.part.refused.items && list_all (is_condition table) done) l.guard

abbrev pub decreases-loop-condition : goal.decreases-loop-condition
decreases-loop-condition l = length l.accepted.items
