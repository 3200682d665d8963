use Rattle.std.proofs.Common.{arith}
use Rattle.std.proofs.lemmas.Grind.{common_steps}
use Rattle.fir_types.specs.declared.fir_type.FirType.{the_lemmas as type_lemmas}
use Rattle.fir_tree.specs.declared.expr.Expr.{the_lemmas as expr_lemmas}
use Rattle.fir_tree.specs.declared.stmt.Stmt.{the_lemmas as stmt_lemmas}
use Rattle.size_laws.proofs.examples.instances_count_with_their_bundles.Goals as goal

pub returns-clause-size : goal.returns-clause-size
returns-clause-size c = λ texts. grind (arith, common_steps, stmt_lemmas, expr_lemmas, type_lemmas)

pub returns-clause-leaves : goal.returns-clause-leaves
returns-clause-leaves c = λ texts. grind (arith, common_steps, stmt_lemmas, expr_lemmas, type_lemmas)

pub returns-clause-inside : goal.returns-clause-inside
returns-clause-inside c = λ texts. grind (arith, common_steps, stmt_lemmas, expr_lemmas, type_lemmas)
