-- What the leaf x of a register of two leaves is made of.
use Rattle.std.proofs.Common.{◌≡◌, zero, suc, false, List, [], ◌∷◌, Some, arith, subst, ap, sym, ◌∙◌, ◌⊎◌, inl, inr}
use Rattle.std.specs.Prelude.{Contains}
use Rattle.std.proofs.lemmas.Grind.{common_steps}
use Rattle.fir_types.specs.declared.fir_type.FirType.{the_lemmas as type_lemmas}
use Rattle.fir_tree.specs.declared.expr.Expr.{Expr, the_lemmas as expr_lemmas}
use Rattle.fir_meaning.specs.Components.{Leaf, Sort, A_reset_register}
use Rattle.fir_meaning.specs.Mentions.{joined, mentions, whole_region}
use Rattle.fir_meaning.specs.Loops.{driven_from}
use Rattle.definition_examples.specs.Samples.{ref, leaf}
use Rattle.definition_examples.specs.Sides.{pairs, x_of, x_leaf}
use Rattle.definition_examples.specs.Registers.{IsMadeOf, from_connect, from_reset, from_init, of_pair}

the_one : {A : Type 0} (x y : A) → Contains (x ∷ []) y → y ≡ x
the_one x y (zero, below, is) = sym is
the_one x y (suc k, below, is) = absurd (omega arith)

in_none : {A : Type 0} (z : A) → Contains [] z → ⊥
in_none z (k, below, is) = absurd (omega arith)

abbrev reset_in : Sort → Expr
reset_in (A_reset_register k r i) = r
reset_in _ = ref 0

abbrev init_in : Sort → Expr
init_in (A_reset_register k r i) = i
init_in _ = ref 0

abbrev initial : Expr → List Leaf
initial e = joined (driven_from false (x_of 20) (mentions e pairs) (Some (whole_region pairs 20)))

reset_mentions : joined (mentions (ref 25) pairs) ≡ leaf 25 [] ∷ []
reset_mentions = grind (arith, common_steps, expr_lemmas, type_lemmas)

init_mentions : initial (ref 22) ≡ x_of 22 ∷ []
init_mentions = grind (arith, common_steps, expr_lemmas, type_lemmas)

pub made_of : (y : Leaf) → IsMadeOf pairs of_pair x_leaf y → (y ≡ leaf 25 []) ⊎ (y ≡ x_of 22)
made_of y (from_connect among) = absurd (in_none y among)
made_of y (from_reset k r i sort among) =
    inl (the_one (leaf 25 []) y (subst (λ l. Contains l y) (ap (λ s. joined (mentions (reset_in s) pairs)) (sym sort) ∙ reset_mentions) among))
made_of y (from_init k r i sort among) = inr (the_one (x_of 22) y (subst (λ l. Contains l y) (ap (λ s. initial (init_in s)) (sym sort) ∙ init_mentions) among))
