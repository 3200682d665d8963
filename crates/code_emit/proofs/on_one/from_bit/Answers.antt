use Rattle.std.proofs.Common.{[], ◌∷◌, sym, subst}
use Rattle.code_emit.specs.Ways.{Operates}
use Rattle.code_emit.proofs.Ones.{right_operates}
use Rattle.code_emit.proofs.on_one.from_bit.Goals as goal

pub returns : goal.returns
returns c = λ R shifts.
    let x = c.args.x in
    subst (λ i. Operates i (x ∷ []) R) (sym c.of_one.ensures)
    (right_operates x c.requires.operand c.args.width R c.args.low c.low_mask.result shifts c.if-low-ge64.false (c.low_mask.ensures.narrow c.requires.result))
