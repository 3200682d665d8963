use Rattle.std.proofs.Common.{arith}
use Rattle.std.proofs.lemmas.Grind.{common_steps}
use Rattle.std.proofs.lemmas.List.Folds.{flat_map-map}
use Rattle.fir_tree.specs.declared.expr.Expr.{the_lemmas}
use Rattle.fir_names.proofs.references.+references.Goals as goal

pub push_references-returns-in_ok-push-in-Ref : goal.push_references-returns-in_ok-push-in-Ref
push_references-returns-in_ok-push-in-Ref t c = grind (arith, common_steps, the_lemmas, flat_map-map)

pub push_references-returns-in-Prim : goal.push_references-returns-in-Prim
push_references-returns-in-Prim t c = grind (arith, common_steps, the_lemmas, flat_map-map)
