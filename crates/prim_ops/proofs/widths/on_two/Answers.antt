use Rattle.prim_ops.proofs.Formulas.{shift_width}
use Rattle.prim_ops.proofs.widths.on_two.Goals as goal

pub returns-in-Dshl : goal.returns-in-Dshl
returns-in-Dshl c = rw c.in-Dshl.is (shift_width _ _ _ _ _ c.from-first.ensures c.from-second.ensures c.greatest_shift.ensures.exact c.greatest_shift.ensures.over)
