use Rattle.std.proofs.Common.{sym, ◌∙◌}
use Rattle.std.specs.Prelude.{Some, None}
use Rattle.std.proofs.Math.Logic.{∥∥₁_map}
use Rattle.size_check.proofs.Weighing.{field_type_is}
use Rattle.size_check.proofs.weights.field_of.Goals as goal

pub returns-in-Some-clause-typ : goal.returns-in-Some-clause-typ
returns-in-Some-clause-typ c =
    c.known.ensures.typ ∙ sym (field_type_is c.args.before.typ.now c.args.id (Some c.in-Some.field.field.now) c.in-Some.ensures.field)

pub returns-in-Some-clause-ways : goal.returns-in-Some-clause-ways
returns-in-Some-clause-ways c = λ texts k. rw (c.known.ensures.typ, c.known.ensures.index) (∥∥₁_map k (c.in-Some.ensures.ways texts))

pub returns-in-None-clause-typ : goal.returns-in-None-clause-typ
returns-in-None-clause-typ c = sym (field_type_is c.args.before.typ.now c.args.id None c.in-None.ensures.field)
