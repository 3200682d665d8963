use Rattle.std.proofs.Common.{subst}
use Rattle.code_emit.specs.Rows.{IsRow}
use Rattle.code_emit.proofs.Rowing.{kinds_at, bits_at, row_of}
use Rattle.code_emit.proofs.There.{one_item, two_items}
use Rattle.code_emit.proofs.forms.row_measure.Goals as goal

pub measured-requires : goal.measured-requires
measured-requires c =
    let ss = c.args.operands.now in
    let is = one_item ss c.first-item.result c.in-len1.len_at_least c.in-len1.len_below c.first-item.is in
    subst (λ ts. IsRow c.args.prim (kinds_at ts) (bits_at ts) c.args.params.now) is ((row_of c.args.prim c.args.params.now ss c.requires).is_row)

pub measured-requires-in-len2 : goal.measured-requires-in-len2
measured-requires-in-len2 c =
    let ss = c.args.operands.now in
    let is = two_items ss c.first-item-then-operands-lt3.result c.second-item.result c.in-len2.len_at_least c.in-len2.len_below c.first-item-then-operands-lt3.is c.second-item.is in
    subst (λ ts. IsRow c.args.prim (kinds_at ts) (bits_at ts) c.args.params.now) is ((row_of c.args.prim c.args.params.now ss c.requires).is_row)
