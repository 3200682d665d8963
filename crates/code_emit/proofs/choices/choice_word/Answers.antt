use Rattle.std.proofs.Common.{sym, subst}
use Rattle.ground_net.specs.Grounds.{chosen}
use Rattle.code_emit.specs.Ways.{IsWay}
use Rattle.code_emit.proofs.There.{three_items}
use Rattle.code_emit.proofs.choices.choice_word.Goals as goal

pub returns-in_ok-made-in-Some-clause-makes : goal.returns-in_ok-made-in-Some-clause-makes
returns-in_ok-made-in-Some-clause-makes c = λ is there.
    let ss = c.args.items.now in
    let items = three_items ss c.condition-item.result c.first-item.result c.second-item.result c.in-len3.len_at_least c.in-len3.len_below c.condition-item.is c.first-item.is c.second-item.is in
    c.in_ok-made-in-Some.ensures.makes ss chosen (subst (λ ts. IsWay c.in-Some.way ts chosen) (sym items) c.in-Some.ensures) is there

pub returns-in_ok-made-in-Some-clause-step : goal.returns-in_ok-made-in-Some-clause-step
returns-in_ok-made-in-Some-clause-step c =
    let ss = c.args.items.now in
    let items = three_items ss c.condition-item.result c.first-item.result c.second-item.result c.in-len3.len_at_least c.in-len3.len_below c.condition-item.is c.first-item.is c.second-item.is in
    c.in_ok-made-in-Some.ensures.step ss chosen (subst (λ ts. IsWay c.in-Some.way ts chosen) (sym items) c.in-Some.ensures)
