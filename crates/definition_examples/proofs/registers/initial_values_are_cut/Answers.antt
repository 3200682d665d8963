use Rattle.std.proofs.Common.{arith}
use Rattle.std.proofs.lemmas.Grind.{common_steps}
use Rattle.fir_types.specs.declared.fir_type.FirType.{the_lemmas as type_lemmas}
use Rattle.fir_tree.specs.declared.expr.Expr.{the_lemmas as expr_lemmas}
use Rattle.definition_examples.proofs.registers.initial_values_are_cut.Goals as goal

pub returns : goal.returns
returns c = λ held. grind (arith, common_steps, expr_lemmas, type_lemmas)
