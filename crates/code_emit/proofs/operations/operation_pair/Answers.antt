use Rattle.std.proofs.Common.{sym, subst}
use Rattle.code_emit.specs.Ways.{PairsRow}
use Rattle.code_emit.proofs.There.{some_so, two_items}
use Rattle.code_emit.proofs.operations.operation_pair.Goals as goal

pub returns-in-Signed-clause-pair : goal.returns-in-Signed-clause-pair
returns-in-Signed-clause-pair c =
    let ss = c.args.operands.now in
    let items = two_items ss c.x-item.result c.y-item.result c.in-len2.len_at_least c.in-len2.len_below c.x-item.is c.y-item.is in
    some_so c.pair_on_two.result c.pair_on_two.ensures (λ p h params. subst (λ ts. PairsRow p c.args.prim params ts c.args.width) (sym items) (h params))
