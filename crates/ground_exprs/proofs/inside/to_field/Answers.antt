use Rattle.std.proofs.Common.{Some}
use Rattle.ground_exprs.proofs.Insides.{inside_found, type_found}
use Rattle.ground_exprs.proofs.inside.to_field.Goals as goal

pub returns-clause-typ : goal.returns-clause-typ
returns-clause-typ c = type_found c.args.at.typ.now c.in-Bundle.field-0 c.args.id (Some c.in-Some.inner.typ.now) c.in-Bundle.is c.in-Some.ensures

pub returns-clause-inside : goal.returns-clause-inside
returns-clause-inside c = inside_found c.args.at.typ.now c.in-Bundle.field-0 c.args.id c.in_ok-before.before c.in-Some.inner.typ.now c.in-Bundle.is c.in-Some.ensures c.in_ok-before.ensures
