use Rattle.std.proofs.Common.{rules, arith, ◌≡◌, ap, sym, ◌∙◌, subst, true, false, Some, None, IfOk}
use Rattle.std.proofs.lemmas.Grind.{common_steps}
use Rattle.std.specs.Prelude.{option_map}
use Rattle.reset_search.specs.Feeds.{reached_by, reach}
use Rattle.reset_resolution.specs.Layers.{reached_as}
use Rattle.reset_resolution.proofs.Expressions.{choice_three, prim_told, reached-mux}
use Rattle.reset_resolution.proofs.reaching.+reach.Goals as goal

pub reach_choice-returns-then-not-are_alike : goal.reach_choice-returns-then-not-are_alike
reach_choice-returns-then-not-are_alike t c =
    sym (choice_three (λ e. reached_by e c.args.scope.known.now.entries) c.args.operands.now c.condition-item.result c.first-item.result c.second-item.result
    (reached_as c.in-Some.field-0) (reached_as c.in-Some-2.one) (reached_as c.in-Some-3.other) false (omega arith) (omega arith) (search rules) (search rules) (search rules)
    (sym c.in_ok-reach_expr.ensures ∙ ap (option_map reached_as) c.in-Some.is) (sym c.in_ok-one.ensures ∙ ap (option_map reached_as) c.in-Some-2.is)
    (sym c.in_ok-other.ensures ∙ ap (option_map reached_as) c.in-Some-3.is) (sym c.are_alike.ensures ∙ c.if-not-are_alike.true))

pub reach_choice-returns : goal.reach_choice-returns
reach_choice-returns t c =
    ap (λ l. Some (reach c.in-Some-2.one.known.typ l)) c.no_spots.ensures
    ∙ sym (choice_three (λ e. reached_by e c.args.scope.known.now.entries) c.args.operands.now c.condition-item.result c.first-item.result c.second-item.result
    (reached_as c.in-Some.field-0) (reached_as c.in-Some-2.one) (reached_as c.in-Some-3.other) true (omega arith) (omega arith) (search rules) (search rules) (search rules)
    (sym c.in_ok-reach_expr.ensures ∙ ap (option_map reached_as) c.in-Some.is) (sym c.in_ok-one.ensures ∙ ap (option_map reached_as) c.in-Some-2.is)
    (sym c.in_ok-other.ensures ∙ ap (option_map reached_as) c.in-Some-3.is) (sym c.are_alike.ensures ∙ c.if-not-are_alike.false))

pub reach_expr-returns-in_default : goal.reach_expr-returns-in_default
reach_expr-returns-in_default t c =
    sym (prim_told c.args.expr.now c.in-Prim.prim c.in-Prim.operands c.in-Prim.field-2 c.args.scope.known.now.entries None None c.in-Prim.is (search rules) (search rules))

pub reach_expr-returns-in_default-row_of : goal.reach_expr-returns-in_default-row_of
reach_expr-returns-in_default-row_of t c =
    sym (prim_told c.args.expr.now c.in-Prim.prim c.in-Prim.operands c.in-Prim.field-2 c.args.scope.known.now.entries (Some c.in-Some.kinds) None c.in-Prim.is (search rules) (search rules))

pub reach_expr-returns-in-Some-row_of : goal.reach_expr-returns-in-Some-row_of
reach_expr-returns-in-Some-row_of t c =
    let e = prim_told c.args.expr.now c.in-Prim.prim c.in-Prim.operands c.in-Prim.field-2 c.args.scope.known.now.entries (Some c.in-Some.kinds) (Some c.in-Some-row_of.kind) c.in-Prim.is (search rules) (search rules) in
    grind (arith, common_steps, e)

pub reach_expr-returns-in-Mux : goal.reach_expr-returns-in-Mux
reach_expr-returns-in-Mux t c =
    let e = reached-mux c.args.expr.now c.in-Mux.operands c.args.scope.known.now.entries c.in-Mux.is in
    grind (arith, common_steps, e)
