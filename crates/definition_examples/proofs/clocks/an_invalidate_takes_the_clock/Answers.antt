use Rattle.std.proofs.Common.{arith}
use Rattle.std.proofs.lemmas.Grind.{common_steps}
use Rattle.fir_types.specs.declared.fir_type.FirType.{the_lemmas as type_lemmas}
use Rattle.fir_tree.specs.declared.expr.Expr.{the_lemmas as expr_lemmas}
use Rattle.fir_tree.specs.declared.stmt.Stmt.{the_lemmas as stmt_lemmas}
use Rattle.definition_examples.proofs.clocks.an_invalidate_takes_the_clock.Goals as goal

pub returns : goal.returns
returns c = grind (arith, common_steps, stmt_lemmas, expr_lemmas, type_lemmas)
