use Rattle.std.proofs.Common.{rules, arith, ◌≡◌, subst, IfOk}
use Rattle.std.proofs.lemmas.Grind.{common_steps}
use Rattle.width_rules.specs.Sources.{measured}
use Rattle.width_rules.specs.Parts.{measured_by}
use Rattle.width_rules.proofs.Expressions.{prim_told, measured-mux, choice_of_three}
use Rattle.width_rules.proofs.measuring.+measure.Goals as goal

pub measure_expr-returns-in_ok-formula-in-Prim : goal.measure_expr-returns-in_ok-formula-in-Prim
measure_expr-returns-in_ok-formula-in-Prim t c =
    let e = prim_told c.args.expr.now c.in-Prim.prim c.in-Prim.operands c.in-Prim.params c.in_ok-params-in-Prim.params c.args.scope.known.now.entries c.measure_operands.new.kinds c.measure_operands.new.formulas
    c.operation_type-typ.result c.in_ok-formula-in-Prim.formula c.in-Prim.is (search rules) (search rules) (search rules) (search rules) (search rules) in
    subst (λ x. IfOk c.single-in-Prim.result (λ m. measured_by m ≡ x)) e c.single-in-Prim.ensures

pub measure_expr-returns-in-Mux : goal.measure_expr-returns-in-Mux
measure_expr-returns-in-Mux t c =
    let e = measured-mux c.args.expr.now c.in-Mux.operands c.args.scope.known.now.entries c.in-Mux.is in
    grind (arith, common_steps, e)

pub measure_choice-returns : goal.measure_choice-returns
measure_choice-returns t c =
    let e = choice_of_three (λ x. measured x c.args.scope.known.now.entries) c.args.operands.now c.first-item.result c.second-item.result (omega arith) (omega arith) (search rules) (search rules) in
    grind (arith, common_steps, e)
