use Rattle.std.proofs.Common.{arith}
use Rattle.std.proofs.lemmas.Grind.{common_steps}
use Rattle.fir_types.specs.declared.fir_type.FirType.{the_lemmas as type_lemmas}
use Rattle.fir_tree.specs.declared.expr.Expr.{the_lemmas as expr_lemmas}
use Rattle.fir_tree.specs.declared.stmt.Stmt.{the_lemmas as stmt_lemmas}
use Rattle.size_laws.proofs.examples.arms_stand_under_the_conditions_before.Goals as goal

pub returns-clause-else_when : goal.returns-clause-else_when
returns-clause-else_when c = λ texts. grind (arith, common_steps, stmt_lemmas, expr_lemmas, type_lemmas)

pub returns-clause-otherwise : goal.returns-clause-otherwise
returns-clause-otherwise c = λ texts. grind (arith, common_steps, stmt_lemmas, expr_lemmas, type_lemmas)
