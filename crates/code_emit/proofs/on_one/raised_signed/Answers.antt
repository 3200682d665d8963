use Rattle.std.proofs.Common.{◌≡◌, ◌<◌, ◌*◌, ◌^◌, [], ◌∷◌, ◌∙◌, sym, subst, ap, arith}
use Rattle.prim_ops.specs.declared.operation.PrimOp.TheVariants as prim
use Rattle.flat_code.specs.declared.instr.Op.TheVariants as op
use Rattle.code_emit.specs.Working.{working}
use Rattle.code_emit.specs.Ways.{Follow, row_value}
use Rattle.code_emit.proofs.Ones.{half_double, shl_follow}
use Rattle.code_emit.proofs.on_one.raised_signed.Goals as goal

pub returns : goal.returns
returns c = λ params is kind h.
    let x = c.args.x in
    let R = row_value prim.Shl params in
    let half = c.sign_of.result in
    let some : 0 < x.width = omega (arith, c.if-x-eq0.false) in
    let double : 2 * half ≡ 2 ^ x.width = ap (λ n. 2 * n) c.sign_of.ensures ∙ half_double x.width some in
    subst (λ i. Follow i c.of_one-2.result (x ∷ []) R) (sym c.of_one.ensures)
    (subst (λ j. Follow (working op.Extend 0 x.low 0 0 half) j (x ∷ []) R) (sym c.of_one-2.ensures)
    (shl_follow x c.requires.operand params kind c.args.width half c.args.shift c.low_mask.result h c.requires.kind double is c.requires.few c.requires.result (c.low_mask.ensures.narrow c.requires.result)))
