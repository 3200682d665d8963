use Rattle.std.proofs.Common.{[], ◌∷◌, sym, subst, arith}
use Rattle.code_emit.specs.Ways.{Operates}
use Rattle.code_emit.proofs.Ones.{keep_operates, same_rests, plain_rests}
use Rattle.code_emit.proofs.fits.fit_way.Goals as goal

pub returns-then-width-x : goal.returns-then-width-x
returns-then-width-x c = λ R fits.
    let x = c.args.x in
    subst (λ i. Operates i (x ∷ []) R) (sym c.of_one.ensures)
    (keep_operates x c.requires.operand c.args.width R c.low_mask.result fits (omega (arith, c.if-width-x.true)) (c.low_mask.ensures.narrow c.requires.result))

pub returns-then-width-x-2 : goal.returns-then-width-x-2
returns-then-width-x-2 c = λ R fits. same_rests c.args.x c.requires.operand c.args.width R fits (omega (arith, c.if-width-x-2.true))

pub returns-in-Unsigned : goal.returns-in-Unsigned
returns-in-Unsigned c = λ R fits. plain_rests c.args.x c.requires.operand c.args.width R fits c.in-Unsigned.is (omega (arith, c.if-width-x.false))
