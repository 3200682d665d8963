use Rattle.circuit_laws.proofs.TypedModules.{module_shapes, module_values, module_counted, module_mentions}
use Rattle.circuit_laws.proofs.laws.typed_expressions_have_their_shapes.Goals as goal

pub returns-clause-shapes : goal.returns-clause-shapes
returns-clause-shapes c = module_shapes

pub returns-clause-values : goal.returns-clause-values
returns-clause-values c = module_values

pub returns-clause-counted : goal.returns-clause-counted
returns-clause-counted c = module_counted

pub returns-clause-leaves : goal.returns-clause-leaves
returns-clause-leaves c = module_mentions
