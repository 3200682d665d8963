use Rattle.std.proofs.Common.{Some, ◌∙◌, ap}
use Rattle.field_tables.proofs.Fitting.{same_table}
use Rattle.field_tables.proofs.making.inner_of.Goals as goal

pub returns-in-Some : goal.returns-in-Some
returns-in-Some c = λ it e. c.in-Some.is ∙ ap Some (same_table c.in-Some.table it e)
