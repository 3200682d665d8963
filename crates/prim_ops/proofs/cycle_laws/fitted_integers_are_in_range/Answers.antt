use Rattle.prim_ops.proofs.Fittings.{fitted_integer, fitted_same, value_in_range}
use Rattle.prim_ops.proofs.cycle_laws.fitted_integers_are_in_range.Goals as goal

pub returns-clause-integer : goal.returns-clause-integer
returns-clause-integer c = λ kind width n h. fitted_integer kind width n h

pub returns-clause-range : goal.returns-clause-range
returns-clause-range c = λ v. value_in_range v

pub returns-clause-kept : goal.returns-clause-kept
returns-clause-kept c = λ kind width n h r. fitted_same kind width n h r
