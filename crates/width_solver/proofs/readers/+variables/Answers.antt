use Rattle.std.proofs.Common.{arith}
use Rattle.std.proofs.lemmas.Grind.{common_steps}
use Rattle.std.proofs.lemmas.List.Folds.{flat_map-map}
use Rattle.width_rules.specs.declared.rule.Formula.{the_lemmas}
use Rattle.width_solver.proofs.readers.+variables.Goals as goal

pub push_variables-returns-in-Op : goal.push_variables-returns-in-Op
push_variables-returns-in-Op t c = grind (arith, common_steps, the_lemmas, flat_map-map)
