use Rattle.std.proofs.Common.{[], ◌∷◌}
use Rattle.prim_ops.specs.declared.operation.PrimOp.TheVariants as prim
use Rattle.flat_code.specs.declared.instr.Op.TheVariants as op
use Rattle.code_emit.proofs.Pairwise.{pair_for, dshl_pair, dshr_pair}
use Rattle.code_emit.proofs.signed.pair_by.Goals as goal

pub returns-in-Dshl : goal.returns-in-Dshl
returns-in-Dshl c = λ params.
    let x = c.args.x in
    let y = c.args.y in
    let p = c.both.result in
    let mask = c.low_mask.result in
    pair_for c.args.prim prim.Dshl p params (x ∷ y ∷ []) c.args.width c.in-Dshl.is (λ kind h.
    dshl_pair x y c.requires.first c.requires.second params kind c.args.width c.requires.result p mask c.in-Unsigned.is (c.both.ensures op.LeftBy mask c.last.ensures) (c.low_mask.ensures.narrow c.requires.result) h)

pub returns-in-Dshr : goal.returns-in-Dshr
returns-in-Dshr c = λ params.
    let x = c.args.x in
    let y = c.args.y in
    let p = c.both-in-Dshr.result in
    let mask = c.low_mask-in-Dshr.result in
    pair_for c.args.prim prim.Dshr p params (x ∷ y ∷ []) c.args.width c.in-Dshr.is (λ kind h.
    dshr_pair x y c.requires.first c.requires.second params kind c.args.width c.requires.result p mask c.requires.kind c.in-Unsigned.is (c.both-in-Dshr.ensures op.RightSigned mask c.last-in-Dshr.ensures) (c.low_mask-in-Dshr.ensures.narrow c.requires.result) h)
