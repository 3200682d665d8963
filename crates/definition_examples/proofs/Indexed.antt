-- What `v[i]` may name.
use Rattle.std.proofs.Common.{◌≡◌, ◌∙◌, true, [], ◌∷◌, Some, arith}
use Rattle.std.proofs.lemmas.Grind.{common_steps}
use Rattle.fir_types.specs.declared.fir_type.FirType.{the_lemmas as type_lemmas}
use Rattle.fir_types.specs.declared.leaf.PathStep.TheVariants as step
use Rattle.fir_tree.specs.declared.expr.Expr.{the_lemmas as expr_lemmas}
use Rattle.fir_tree.specs.declared.expr.Form.TheVariants as form
use Rattle.fir_meaning.specs.Mentions.{region_of}
use Rattle.fir_meaning.proofs.Equations.{region-indexed}
use Rattle.definition_examples.specs.Samples.{place, name, clock_type, leaf}
use Rattle.definition_examples.specs.Clocks.{clocks}
use Rattle.definition_examples.specs.Sides.{pair, pairs, v_of_i}

pub region_of_v : region_of pairs v_of_i ≡ Some (record { component = 23; typ = pair; ways = (step.Element 0 ∷ []) ∷ (step.Element 1 ∷ []) ∷ []; dynamic = true; indices = leaf 24 [] ∷ [] })
region_of_v = region-indexed place place place (name 23) (form.Ref (name 24) []) pairs ∙ grind (arith, common_steps, expr_lemmas, type_lemmas)

pub region_of_clocks : region_of clocks v_of_i ≡ Some (record { component = 23; typ = clock_type; ways = (step.Element 0 ∷ []) ∷ (step.Element 1 ∷ []) ∷ []; dynamic = true; indices = leaf 24 [] ∷ [] })
region_of_clocks = region-indexed place place place (name 23) (form.Ref (name 24) []) clocks ∙ grind (arith, common_steps, expr_lemmas, type_lemmas)
