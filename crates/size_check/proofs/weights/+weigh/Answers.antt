use Rattle.std.proofs.Common.{ap, arith}
use Rattle.size_check.specs.Reaching.{types_in, weight_of}
use Rattle.size_check.specs.Weights.{weight}
use Rattle.size_check.proofs.Weighing.{most_more, weigh_prim, weigh_mux, choice_made, rest_most}
use Rattle.size_check.proofs.weights.+weigh.Goals as goal

pub most_in-loop-expr-preserved : goal.most_in-loop-expr-preserved
most_in-loop-expr-preserved t c =
    most_more (λ e. weight e (types_in c.args.known.now)) c.args.exprs.now c.loop-expr.expr-index c.expr-item.result c.loop-expr.most c.weigh.result.most c.max-most.result
    c.loop-expr-test.true c.expr-item.is c.loop-expr.invariant (ap (λ w. w.most) c.weigh.ensures.weight) c.max-most.ensures

pub weigh-returns-in-Prim-clause-weight : goal.weigh-returns-in-Prim-clause-weight
weigh-returns-in-Prim-clause-weight t c =
    weigh_prim c.args.expr.now c.in-Prim.field-0 c.in-Prim.operands c.in-Prim.field-2 (types_in c.args.known.now) c.operation.result.part.typ.now c.most_in.result c.operation.result.most
    c.in-Prim.is c.operation.ensures.typ (rw c.as_slice-in-Prim.ensures at c.most_in.ensures) c.operation.ensures.most

pub weigh-returns-in-Mux-clause-weight : goal.weigh-returns-in-Mux-clause-weight
weigh-returns-in-Mux-clause-weight t c =
    weigh_mux c.args.expr.now c.in-Mux.operands (types_in c.args.known.now) _ c.in-Mux.is (rw c.as_slice-in-Mux.ensures at c.choose.ensures.weight)

pub choose-returns-clause-weight : goal.choose-returns-clause-weight
choose-returns-clause-weight t c =
    choice_made (λ e. weight e (types_in c.args.known.now)) c.args.operands.now c.condition-item.result c.first-item.result c.weigh-asked.result.most
    (weight_of c.weigh-reached.result) c.most_in-2.result c.max.result c.max-2.result c.in-len2-up.len_at_least c.condition-item.is c.first-item.is
    (ap (λ w. w.most) c.weigh-asked.ensures.weight) c.weigh-reached.ensures.weight
    (rest_most (λ e. weight e (types_in c.args.known.now)) c.args.operands.now _ c.most_in-2.result c.most_in-2.ensures (omega arith)) c.max.ensures c.max-2.ensures
