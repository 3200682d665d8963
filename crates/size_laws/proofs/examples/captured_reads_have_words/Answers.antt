use Rattle.std.proofs.Common.{arith}
use Rattle.std.proofs.lemmas.Grind.{common_steps}
use Rattle.fir_types.specs.declared.fir_type.FirType.{the_lemmas as type_lemmas}
use Rattle.fir_tree.specs.declared.expr.Expr.{the_lemmas as expr_lemmas}
use Rattle.fir_tree.specs.declared.stmt.Stmt.{the_lemmas as stmt_lemmas}
use Rattle.size_laws.proofs.examples.captured_reads_have_words.Goals as goal

pub returns-clause-late : goal.returns-clause-late
returns-clause-late c = λ texts. grind (arith, common_steps, stmt_lemmas, expr_lemmas, type_lemmas)

pub returns-clause-at_once : goal.returns-clause-at_once
returns-clause-at_once c = λ texts. grind (arith, common_steps, stmt_lemmas, expr_lemmas, type_lemmas)
