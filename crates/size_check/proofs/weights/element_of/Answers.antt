use Rattle.std.proofs.Common.{sym}
use Rattle.std.specs.Prelude.{Some, None}
use Rattle.std.proofs.Math.Logic.{∥∥₁_map}
use Rattle.size_check.proofs.Weighing.{element_type_is}
use Rattle.size_check.proofs.weights.element_of.Goals as goal

pub returns-in-Some-clause-typ : goal.returns-in-Some-clause-typ
returns-in-Some-clause-typ c = sym (element_type_is c.args.before.typ.now (Some c.in-Some.part.typ.now) c.in-Some.ensures.typ)

pub returns-in-Some-clause-ways : goal.returns-in-Some-clause-ways
returns-in-Some-clause-ways c = λ texts k. ∥∥₁_map k (c.in-Some.ensures.ways texts)

pub returns-in-None-clause-typ : goal.returns-in-None-clause-typ
returns-in-None-clause-typ c = sym (element_type_is c.args.before.typ.now None c.in-None.ensures.typ)
