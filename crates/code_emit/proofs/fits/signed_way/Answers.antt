use Rattle.std.proofs.Common.{◌≡◌, ◌<◌, ◌*◌, ◌^◌, [], ◌∷◌, ◌∙◌, sym, subst, ap, arith}
use Rattle.flat_code.specs.declared.instr.Op.TheVariants as op
use Rattle.code_emit.specs.Working.{working}
use Rattle.code_emit.specs.Ways.{Follow}
use Rattle.code_emit.proofs.Ones.{half_double, signed_follow}
use Rattle.code_emit.proofs.fits.signed_way.Goals as goal

pub returns : goal.returns
returns c = λ R fits.
    let x = c.args.x in
    let half = c.sign_of.result in
    let some : 0 < x.width = omega (arith, c.if-x-eq0.false) in
    let double : 2 * half ≡ 2 ^ x.width = ap (λ n. 2 * n) c.sign_of.ensures ∙ half_double x.width some in
    subst (λ i. Follow i c.of_one-2.result (x ∷ []) R) (sym c.of_one.ensures)
    (subst (λ j. Follow (working op.Extend 0 x.low 0 0 half) j (x ∷ []) R) (sym c.of_one-2.ensures)
    (signed_follow x c.requires.operand c.args.width R half c.low_mask.result fits c.requires.kind double c.requires.result (c.low_mask.ensures.narrow c.requires.result)))
