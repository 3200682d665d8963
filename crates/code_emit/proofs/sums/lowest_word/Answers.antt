use Rattle.std.proofs.Common.{◌≤◌, [], sym, subst, arith}
use Rattle.prim_ops.specs.Results.{integer_result}
use Rattle.prim_ops.specs.Values.{fitted}
use Rattle.code_emit.specs.Ways.{Given, IsWay, IsLowest}
use Rattle.code_emit.proofs.There.{two_items}
use Rattle.code_emit.proofs.Lowest.{fitted_lowest}
use Rattle.code_emit.proofs.sums.lowest_word.Goals as goal

pub returns-in_ok-made-in-Some-clause-makes : goal.returns-in_ok-made-in-Some-clause-makes
returns-in_ok-made-in-Some-clause-makes c = λ R params lowest is there.
    let ss = c.args.operands.now in
    let items = two_items ss c.x-item.result c.y-item.result c.in-len2.len_at_least c.in-len2.len_below c.x-item.is c.y-item.is in
    let way = c.in-Some.ensures R params (subst (λ ts. IsLowest c.args.prim params c.args.measure.width ts R) items lowest) in
    c.in_ok-made-in-Some.ensures.makes ss R (subst (λ ts. IsWay c.in-Some.way ts R) (sym items) way) is there

pub returns-in_ok-made-in-Some-clause-step : goal.returns-in_ok-made-in-Some-clause-step
returns-in_ok-made-in-Some-clause-step c =
    let ss = c.args.operands.now in
    let kind = c.args.measure.kind in
    let width = c.args.measure.width in
    let prim = c.args.prim in
    let R : Given = λ vs. fitted kind width (integer_result prim vs []) in
    let items = two_items ss c.x-item.result c.y-item.result c.in-len2.len_at_least c.in-len2.len_below c.x-item.is c.y-item.is in
    let narrow : width ≤ 64 = omega (arith, c.if-measure-gt64.false) in
    let lowest : IsLowest prim [] width ss R = fitted_lowest prim [] kind width ss narrow in
    let way = c.in-Some.ensures R [] (subst (λ ts. IsLowest prim [] width ts R) items lowest) in
    c.in_ok-made-in-Some.ensures.step ss R (subst (λ ts. IsWay c.in-Some.way ts R) (sym items) way)
