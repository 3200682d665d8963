use Rattle.std.proofs.Common.{refl}
use Rattle.stimulus.proofs.forms.read_value.Goals as goal

pub returns-in-Err-Over-clause-ok : goal.returns-in-Err-Over-clause-ok
returns-in-Err-Over-clause-ok c = let t = rw c.in-Err-Over.field-0-is at c.in-Err-Over.ensures.answer in (record { negative = t.0; magnitude = t.1 }, t.2, t.3)

pub returns-in-Err-NotNumber-clause-err : goal.returns-in-Err-NotNumber-clause-err
returns-in-Err-NotNumber-clause-err c = let t = rw c.in-Err-NotNumber.field-0-is at c.in-Err-NotNumber.ensures.answer in (refl, λ h. t h.0 h.1 h.2)
