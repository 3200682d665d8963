use Rattle.std.proofs.Common.{[], ◌∷◌, sym, subst, arith}
use Rattle.prim_ops.specs.declared.operation.PrimOp.TheVariants as prim
use Rattle.code_emit.specs.Ways.{Operates, row_value}
use Rattle.code_emit.proofs.Ones.{shl_operates}
use Rattle.code_emit.proofs.on_one.raised.Goals as goal

pub returns-in-Unsigned : goal.returns-in-Unsigned
returns-in-Unsigned c = λ params is kind h.
    let x = c.args.x in
    subst (λ i. Operates i (x ∷ []) (row_value prim.Shl params)) (sym c.of_one.ensures)
    (shl_operates x c.requires.operand params kind c.args.width c.args.shift c.low_mask.result h c.in-Unsigned.is is (omega (arith, c.if-shift-ge64.false)) c.requires.result (c.low_mask.ensures.narrow c.requires.result))
