-- The node of `a is invalid`, and the condition of `when a : skip`.
use Rattle.std.proofs.Common.{List, [], ◌∷◌, refl, sym, subst}
use Rattle.place_text.specs.declared.place.Place.{Place}
use Rattle.fir_types.specs.declared.name.Name.{Name}
use Rattle.fir_tree.specs.declared.expr.Expr.{Expr}
use Rattle.fir_tree.specs.declared.expr.Form.TheVariants as form
use Rattle.fir_tree.specs.declared.stmt.Stmt.{Stmt}
use Rattle.fir_tree.specs.declared.stmt.Stmt.TheVariants as stmt
use Rattle.fir_tree.specs.declared.stmt.Stmt.TheVariants.{outs-Invalidate}
use Rattle.fir_tree.specs.declared.stmt.Arm.{Arm}
use Rattle.check_laws.specs.Faults.{itself as the_expression}
use Rattle.check_laws.specs.Nodes.{NodesOfEach, reference, no_operands, one_operand, no_steps}
use Rattle.check_laws.proofs.Members.{head_in}
use Rattle.check_laws.specs.CircuitNodes.{at, expressions_in, arms_in, else_in, behind_arms, NodesIn, no_statements, one_statement, NodesInArms, no_arms}
use Rattle.check_laws.specs.Conditions.{itself, IsConditionIn, of_an_arm, StandsInBlock, in_a_condition}

abbrev place : Place
place = record { line = 1; column = 1 }

abbrev name : Name
name = record { id = 0; place = place }

abbrev a : Expr
a = record { place = place; form = form.Ref name [] }

-- one statement without branches, where nothing is known
invalid_node : NodesIn [] [] (stmt.Invalidate a ∷ []) (at [] a ∷ [])
invalid_node = one_statement {own = a ∷ []} {in_arms = []} {in_else = []} {others = []}
    (subst (λ z. NodesOfEach (expressions_in z) (a ∷ [])) (sym (outs-Invalidate a)) (one_operand (reference name [] refl no_steps) no_operands))
    (subst (λ z. NodesInArms [] [] (arms_in z) []) (sym (outs-Invalidate a)) no_arms)
    (subst (λ z. NodesIn [] (behind_arms [] [] (arms_in z)) (else_in z) []) (sym (outs-Invalidate a)) no_statements) no_statements

abbrev arm : Arm
arm = record { condition = a; body = stmt.Skip place ∷ [] }

abbrev asking : List Stmt
asking = stmt.When (arm ∷ []) [] ∷ []

when_condition : IsConditionIn a asking
when_condition = of_an_arm asking (arm ∷ []) [] arm itself (head_in (stmt.When (arm ∷ []) []) []) (head_in arm []) refl

-- it stands in the block
when_stands : StandsInBlock a asking
when_stands = in_a_condition a when_condition the_expression
