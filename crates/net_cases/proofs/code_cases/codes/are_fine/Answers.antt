use Rattle.std.proofs.Common.{◌<◌, length, take, sym, subst, arith}
use Rattle.std.proofs.lemmas.List.{take_more, take_all}
use Rattle.std.proofs.lemmas.List.Elements.{All-push}
use Rattle.flat_code.specs.Fine.{IsFine, AreFine}
use Rattle.net_cases.proofs.code_cases.codes.are_fine.Goals as goal

pub loop-instr-preserved : goal.loop-instr-preserved
loop-instr-preserved c =
    let is = c.args.instrs.now in
    let i = c.loop-instr.instr-index in
    let test = c.loop-instr-test.true in
    let below : i < length is = omega (arith, test) in
    subst (AreFine c.args.slots c.args.words 0 c.args.wides) (sym (take_more is i _ below))
    (All-push (IsFine c.args.slots c.args.words 0 c.args.wides) (take i is) _ c.loop-instr.invariant (c.is_fine.ensures c.if-not-is_fine.false))

pub returns : goal.returns
returns c = λ e.
    let is = c.args.instrs.now in
    let test = c.loop-instr-test.false in
    subst (AreFine c.args.slots c.args.words 0 c.args.wides) (take_all c.loop-instr.instr-index is (omega (arith, test))) c.loop-instr.invariant
