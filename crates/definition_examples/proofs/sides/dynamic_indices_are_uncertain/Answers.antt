use Rattle.std.proofs.Common.{arith}
use Rattle.std.proofs.lemmas.Grind.{common_steps}
use Rattle.fir_types.specs.declared.fir_type.FirType.{the_lemmas as type_lemmas}
use Rattle.fir_tree.specs.declared.expr.Expr.{the_lemmas as expr_lemmas}
use Rattle.fir_tree.specs.declared.stmt.Stmt.{the_lemmas as stmt_lemmas}
use Rattle.definition_examples.proofs.Indexed.{region_of_v}
use Rattle.definition_examples.proofs.sides.dynamic_indices_are_uncertain.Goals as goal

pub returns-clause-plain_left : goal.returns-clause-plain_left
returns-clause-plain_left c = grind (arith, common_steps, stmt_lemmas, expr_lemmas, type_lemmas, region_of_v)

pub returns-clause-indexed_right : goal.returns-clause-indexed_right
returns-clause-indexed_right c = grind (arith, common_steps, stmt_lemmas, expr_lemmas, type_lemmas, region_of_v)

pub returns-clause-plain_right : goal.returns-clause-plain_right
returns-clause-plain_right c = grind (arith, common_steps, stmt_lemmas, expr_lemmas, type_lemmas, region_of_v)

pub returns-clause-indexed_left : goal.returns-clause-indexed_left
returns-clause-indexed_left c = grind (arith, common_steps, stmt_lemmas, expr_lemmas, type_lemmas, region_of_v)
