use Rattle.std.proofs.Common.{◌≡◌, ℕ, Err, IfNone, IfOk, subst}
use Rattle.comb_order.specs.declared.graph_fault.GraphFault.TheVariants as stop
use Rattle.comb_order.specs.Graph.{OnLoop, IsOrder}
use Rattle.comb_order.proofs.Orders.{order_no_loop}
use Rattle.comb_order.proofs.graph_ordering.order.Goals as goal

pub unreachable-requires : goal.unreachable-requires
unreachable-requires c =
    let at = c.in-Err-Loop.field-0-0 in
    let is : c.sequence.result ≡ Err (stop.Loop c.in-Err-Loop.field-0-0) = cc in
    let none = subst (λ o. IfNone o ((x : ℕ) → OnLoop c.args.reads.now x → ⊥)) c.in-None.is c.in_ok-first-in-Err-Loop.ensures.none in
    none at (c.sequence.ensures.looped at is)

pub returns-in-Ok-clause-no_loop : goal.returns-in-Ok-clause-no_loop
returns-in-Ok-clause-no_loop c =
    let ordered = subst (λ r. IfOk r (λ s. IsOrder c.args.reads.now s.items)) c.in-Ok.is c.sequence.ensures.ordered in
    λ x loop. order_no_loop c.args.reads.now c.in-Ok.sequence.items ordered x loop
