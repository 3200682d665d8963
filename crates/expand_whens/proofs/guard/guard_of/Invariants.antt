use Rattle.std.proofs.Common.{◌≡◌, ◌++◌, ◌&&◌, map, take, true}
use Rattle.std.specs.List.{list_all}
use Rattle.ground_net.specs.Grounds.{mentions, joined}
use Rattle.ground_net.specs.Statements.{all_hold}
use Rattle.ground_net.specs.Shapes.{Table}
use Rattle.ground_net.specs.StatementShapes.{is_condition}
use Rattle.expand_whens.specs.Ways.{crossed, crossed_mentions, asked_fits, part_fits, IsPart}
use Rattle.expand_whens.proofs.guard.guard_of.Given as goal

abbrev pub invariant-loop-one : goal.invariant-loop-one
invariant-loop-one l = record {
  part : IsPart (λ instant. crossed instant l.leaf (take l.one-index l.asked)) (crossed_mentions l.leaf (take l.one-index l.asked)) l.part;
  fits : (table : Table) → list_all (asked_fits table) (take l.one-index l.asked) ≡ true → part_fits table l.part ≡ true;
}

abbrev pub invariant-loop-condition : goal.invariant-loop-condition
invariant-loop-condition l = record {
  part : IsPart (λ instant. crossed instant l.leaf l.asked && all_hold instant (take l.condition-index l.conditions))
      (crossed_mentions l.leaf l.asked ++ joined (map mentions (take l.condition-index l.conditions))) l.part;
  fits : (table : Table) → list_all (asked_fits table) l.asked ≡ true → list_all (is_condition table) (take l.condition-index l.conditions) ≡ true → part_fits table l.part ≡ true;
}
