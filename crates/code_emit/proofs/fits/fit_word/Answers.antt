use Rattle.std.proofs.Common.{◌≤◌, sym, subst, arith}
use Rattle.code_emit.specs.Ways.{IsWay, fit_of_one}
use Rattle.code_emit.proofs.There.{one_item}
use Rattle.code_emit.proofs.Ones.{fit_refits}
use Rattle.code_emit.proofs.fits.fit_word.Goals as goal

pub returns-in_ok-made-in-Some-clause-makes : goal.returns-in_ok-made-in-Some-clause-makes
returns-in_ok-made-in-Some-clause-makes c = λ is there.
    let ss = c.args.operands.now in
    let x = c.x-item.result in
    let R = fit_of_one c.args.measure.kind c.args.measure.width in
    let items = one_item ss x c.in-len1.len_at_least c.in-len1.len_below c.x-item.is in
    let few : x.width ≤ 64 = omega (arith, c.if-x-gt64.false) in
    let narrow : c.args.measure.width ≤ 64 = omega (arith, c.if-measure-gt64.false) in
    let way = c.in-Some.ensures R (fit_refits x few c.args.measure.kind c.args.measure.width narrow) in
    c.in_ok-made-in-Some.ensures.makes ss R (subst (λ ts. IsWay c.in-Some.way ts R) (sym items) way) is there

pub returns-in_ok-made-in-Some-clause-step : goal.returns-in_ok-made-in-Some-clause-step
returns-in_ok-made-in-Some-clause-step c =
    let ss = c.args.operands.now in
    let x = c.x-item.result in
    let R = fit_of_one c.args.measure.kind c.args.measure.width in
    let items = one_item ss x c.in-len1.len_at_least c.in-len1.len_below c.x-item.is in
    let few : x.width ≤ 64 = omega (arith, c.if-x-gt64.false) in
    let narrow : c.args.measure.width ≤ 64 = omega (arith, c.if-measure-gt64.false) in
    let way = c.in-Some.ensures R (fit_refits x few c.args.measure.kind c.args.measure.width narrow) in
    c.in_ok-made-in-Some.ensures.step ss R (subst (λ ts. IsWay c.in-Some.way ts R) (sym items) way)
