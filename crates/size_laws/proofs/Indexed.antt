-- The index of `v[w[0]]` counts.
use Rattle.std.proofs.Common.{◌≡◌, ◌+◌, max, [], ◌∷◌, ap, ap₂, ◌∙◌, arith}
use Rattle.std.proofs.lemmas.Grind.{common_steps}
use Rattle.fir_types.specs.declared.fir_type.FirType.{the_lemmas as type_lemmas}
use Rattle.fir_tree.specs.declared.expr.Expr.{Expr, the_lemmas as expr_lemmas}
use Rattle.fir_tree.specs.declared.expr.Suffix.TheVariants as suffix
use Rattle.fir_tree.specs.declared.stmt.Stmt.{the_lemmas as stmt_lemmas}
use Rattle.fir_tree.specs.declared.stmt.Stmt.TheVariants as stmt
use Rattle.fir_tree.specs.LeafNames.{Texts}
use Rattle.size_check.specs.Weights.{Typing, nodes, weight}
use Rattle.size_check.specs.Owns.{sized, stmt_own}
use Rattle.definition_examples.specs.Samples.{place, ref, part, index}
use Rattle.size_laws.specs.Samples.{types, by_index}

own_connect : (texts : Texts) (scope : Typing) (left right : Expr) → stmt_own texts scope (stmt.Connect left right) 0 ≡ sized (nodes left + nodes right) (max (weight left scope).most (weight right scope).most) 0
own_connect texts scope left right = grind (arith, common_steps, stmt_lemmas)

abbrev first_of_w : Expr
first_of_w = part 23 (suffix.At place place 0 ∷ [])

first_nodes : nodes first_of_w ≡ 2
first_nodes = grind (arith, common_steps, expr_lemmas)

first_most : (weight first_of_w types).most ≡ 5
first_most = grind (arith, common_steps, expr_lemmas, type_lemmas)

v_nodes : (e : Expr) → nodes (part 22 (index e ∷ [])) ≡ 2 + nodes e
v_nodes e = grind (arith, common_steps, expr_lemmas)

v_most : (e : Expr) → (weight (part 22 (index e ∷ [])) types).most ≡ max (max 2 (weight e types).most) 1
v_most e = grind (arith, common_steps, expr_lemmas, type_lemmas)

o_nodes : nodes (ref 21) ≡ 1
o_nodes = grind (arith, common_steps, expr_lemmas)

o_most : (weight (ref 21) types).most ≡ 1
o_most = grind (arith, common_steps, expr_lemmas, type_lemmas)

pub indexed : (texts : Texts) → (stmt_own texts types by_index 0).size ≡ 30
indexed texts =
    ap (λ s. s.size) (own_connect texts types (ref 21) (part 22 (index first_of_w ∷ [])))
    ∙ ap₂ (λ n m. (sized n m 0).size) (ap₂ (λ a b. a + b) o_nodes (v_nodes first_of_w ∙ ap (λ n. 2 + n) first_nodes))
    (ap₂ (λ a b. max a b) o_most (v_most first_of_w ∙ ap (λ m. max (max 2 m) 1) first_most))
