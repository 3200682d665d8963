use Rattle.reference_flow.proofs.Stepping.{field-typed}
use Rattle.reference_flow.proofs.component.field.Goals as goal

pub returns-in-Typed : goal.returns-in-Typed
returns-in-Typed c part = rw c.in-Typed.is (field-typed c.args.id part c.in-Typed.part c.field_in.result c.field_in.ensures)
