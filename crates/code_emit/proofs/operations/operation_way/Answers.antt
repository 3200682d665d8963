use Rattle.std.proofs.Common.{sym, subst}
use Rattle.code_emit.specs.Ways.{GivesRow}
use Rattle.code_emit.proofs.There.{some_so, two_items}
use Rattle.code_emit.proofs.operations.operation_way.Goals as goal

pub returns-else-y-gt64 : goal.returns-else-y-gt64
returns-else-y-gt64 c =
    let ss = c.args.operands.now in
    let items = two_items ss c.x-item-then-operands-lt3.result c.y-item.result c.in-len2.len_at_least c.in-len2.len_below c.x-item-then-operands-lt3.is c.y-item.is in
    some_so c.way_on_words.result c.way_on_words.ensures (λ way h. subst (λ ts. GivesRow way c.args.prim c.args.params.now ts c.args.width) (sym items) (h c.args.params.now))
