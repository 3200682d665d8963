use Rattle.type_check.proofs.Reaching.{part_agrees}
use Rattle.type_check.proofs.whole.part_at.Goals as goal

pub returns : goal.returns
returns c =
    part_agrees (λ part. part.typ.now) c.args.known.now.parts c.args.expr.now c.in_ok-reference_at.field-0 c.part.result c.in_ok-reference_at.ensures c.part.ensures
