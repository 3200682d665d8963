-- What leaves mention and read, loops, certain statements and clocks. The input a is 20, the outputs x and y are 21 and 22, each
-- of one bit.
use Rattle.std.proofs.Common.{◌≡◌, ◌∙◌, true, false, [], ◌∷◌, Some, arith, ◌==◌, if◌then◌else◌}
use Rattle.std.proofs.lemmas.Grind.{common_steps}
use Rattle.fir_types.specs.declared.fir_type.FirType.{the_lemmas as type_lemmas}
use Rattle.fir_types.specs.declared.leaf.PathStep.TheVariants as step
use Rattle.fir_tree.specs.declared.expr.Expr.{Expr, the_lemmas as expr_lemmas}
use Rattle.fir_tree.specs.declared.expr.Form.TheVariants as form
use Rattle.fir_tree.specs.declared.stmt.Stmt.{the_lemmas as stmt_lemmas}
use Rattle.fir_tree.specs.declared.stmt.Stmt.TheVariants as stmt
use Rattle.fir_meaning.specs.Mentions.{Scope, mentions, region_of}
use Rattle.fir_meaning.specs.Certain.{is_certain}
use Rattle.fir_meaning.specs.Loops.{live}
use Rattle.fir_meaning.specs.ClockRoot.{No_driver, From, driver_in}
use Rattle.fir_meaning.proofs.Equations.{region-indexed, mentions-indexed}
use Rattle.fir_meaning.proofs.Samples.{place, name, uint, vector, ref, part, at, index, literal, connect, arm, leaf}

abbrev types : Scope
types c = if c == 30 then vector (uint 1) 2 else uint 1

abbrev v_of_a : Expr
v_of_a = part 30 (index (ref 20) ∷ [])

-- `connect x, x` and then `connect x, a`: the later one is certain for x, so x reads a alone.
covered_reads_nothing : live types (leaf 21 []) (connect (ref 21) (ref 21) ∷ connect (ref 21) (ref 20) ∷ []) ≡ (leaf 20 [] ∷ []) ∷ []
covered_reads_nothing = grind (arith, common_steps, stmt_lemmas, expr_lemmas, type_lemmas)

-- `connect x, UInt<1>(0)` and then `connect x, a` under `when x`: the connect in the branch crosses the condition, so x reads
-- itself, whatever the condition is.
condition_is_read : live types (leaf 21 []) (connect (ref 21) (literal 1 0) ∷ stmt.When (arm (ref 21) (connect (ref 21) (ref 20) ∷ []) ∷ []) [] ∷ [])
    ≡ [] ∷ (leaf 21 [] ∷ leaf 20 [] ∷ []) ∷ []
condition_is_read = grind (arith, common_steps, stmt_lemmas, expr_lemmas, type_lemmas)

-- `when a`, `else when x`: a connect in the first arm crosses `a` alone, and one in the second arm both.
first_arm_crosses : live types (leaf 21 []) (stmt.When (arm (ref 20) (connect (ref 21) (literal 1 1) ∷ []) ∷ arm (ref 21) [] ∷ []) [] ∷ []) ≡ (leaf 20 [] ∷ []) ∷ []
first_arm_crosses = grind (arith, common_steps, stmt_lemmas, expr_lemmas, type_lemmas)

second_arm_crosses : live types (leaf 21 []) (stmt.When (arm (ref 20) [] ∷ arm (ref 21) (connect (ref 21) (literal 1 1) ∷ []) ∷ []) [] ∷ [])
    ≡ (leaf 20 [] ∷ leaf 21 [] ∷ []) ∷ []
second_arm_crosses = grind (arith, common_steps, stmt_lemmas, expr_lemmas, type_lemmas)

-- `v[a]` over v : UInt<1>[2] mentions the index and each element.
elements_mentioned : mentions v_of_a types ≡ (leaf 20 [] ∷ leaf 30 (step.Element 0 ∷ []) ∷ leaf 30 (step.Element 1 ∷ []) ∷ []) ∷ []
elements_mentioned = mentions-indexed place place place (name 30) (form.Ref (name 20) []) types ∙ grind (arith, common_steps, expr_lemmas, type_lemmas)

region_of_v : region_of types v_of_a ≡ Some (record { component = 30; typ = uint 1; ways = (step.Element 0 ∷ []) ∷ (step.Element 1 ∷ []) ∷ []; dynamic = true; indices = leaf 20 [] ∷ [] })
region_of_v = region-indexed place place place (name 30) (form.Ref (name 20) []) types ∙ grind (arith, common_steps, expr_lemmas, type_lemmas)

-- A connect of `v[a]` drives v[1] and is not certain for it, so an earlier connect stays live.
through_index : live types (leaf 30 (step.Element 1 ∷ [])) (connect (part 30 (at 1 ∷ [])) (ref 21) ∷ connect v_of_a (ref 22) ∷ [])
    ≡ (leaf 21 [] ∷ []) ∷ (leaf 20 [] ∷ leaf 22 [] ∷ []) ∷ []
through_index = grind (arith, common_steps, stmt_lemmas, expr_lemmas, type_lemmas, region_of_v, elements_mentioned)

-- An `invalidate` is a connect that mentions nothing.
invalidate_covers : live types (leaf 21 []) (connect (ref 21) (ref 21) ∷ stmt.Invalidate (ref 21) ∷ []) ≡ [] ∷ []
invalidate_covers = grind (arith, common_steps, stmt_lemmas, expr_lemmas, type_lemmas)

-- A `when` is certain where each branch is, with an `else`.
with_else : is_certain types (leaf 21 []) (stmt.When (arm (ref 20) (connect (ref 21) (ref 20) ∷ []) ∷ []) (stmt.Invalidate (ref 21) ∷ []) ∷ []) ≡ true
with_else = grind (arith, common_steps, stmt_lemmas, expr_lemmas, type_lemmas)

without_else : is_certain types (leaf 21 []) (stmt.When (arm (ref 20) (connect (ref 21) (ref 20) ∷ []) ∷ []) [] ∷ []) ≡ false
without_else = grind (arith, common_steps, stmt_lemmas, expr_lemmas, type_lemmas)

through_index_uncertain : is_certain types (leaf 30 (step.Element 0 ∷ [])) (connect v_of_a (ref 20) ∷ []) ≡ false
through_index_uncertain = grind (arith, common_steps, stmt_lemmas, expr_lemmas, type_lemmas, region_of_v, elements_mentioned)

-- The clock of `connect x, a` is a, and a later connect under a condition leaves no driver.
driven_by_a : driver_in types (leaf 21 []) (connect (ref 21) (ref 20) ∷ []) ≡ From (leaf 20 [])
driven_by_a = grind (arith, common_steps, stmt_lemmas, expr_lemmas, type_lemmas)

under_condition : driver_in types (leaf 21 []) (connect (ref 21) (ref 20) ∷ stmt.When (arm (ref 22) (connect (ref 21) (ref 20) ∷ []) ∷ []) [] ∷ []) ≡ No_driver
under_condition = grind (arith, common_steps, stmt_lemmas, expr_lemmas, type_lemmas)

from_index : driver_in types (leaf 21 []) (connect (ref 21) v_of_a ∷ []) ≡ No_driver
from_index = grind (arith, common_steps, stmt_lemmas, expr_lemmas, type_lemmas, region_of_v, elements_mentioned)

from_element : driver_in types (leaf 21 []) (connect (ref 21) (part 30 (at 1 ∷ [])) ∷ []) ≡ From (leaf 30 (step.Element 1 ∷ []))
from_element = grind (arith, common_steps, stmt_lemmas, expr_lemmas, type_lemmas)
