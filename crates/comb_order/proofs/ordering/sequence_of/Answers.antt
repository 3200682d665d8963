use Rattle.std.proofs.Common.{◌≡◌, ◌<◌, length, Err, sym, subst, ap, arith}
use Rattle.comb_order.specs.Graph.{IsOrder}
use Rattle.ground_net.specs.Reads.{IsAssigned}
use Rattle.comb_order.specs.Spreads.{IsSpread}
use Rattle.comb_order.specs.Graphs.{rows_of, Keeps, HasPlace}
use Rattle.comb_order.proofs.Graphs.{vertices, no_loop, first_inside, first_loop, ordered}
use Rattle.comb_order.proofs.ordering.sequence_of.Goals as goal

pub order-requires-clause-vertices : goal.order-requires-clause-vertices
order-requires-clause-vertices c =
    let spread = subst (λ g. IsSpread c.args.net.now (rows_of g)) (sym c.as_slice.ensures.value) c.in_ok-graph.ensures.spread in
    vertices c.args.net.now c.as_slice.result.now spread

pub order-requires-clause-few : goal.order-requires-clause-few
order-requires-clause-few c = omega (arith, ap length c.as_slice.ensures.value, c.in_ok-graph.ensures.few)

pub returns-in-Ok-clause-ordered : goal.returns-in-Ok-clause-ordered
returns-in-Ok-clause-ordered c =
    let spread = subst (λ g. IsSpread c.args.net.now (rows_of g)) (sym c.as_slice.ensures.value) c.in_ok-graph.ensures.spread in
    let keeps = subst (λ leaves. Keeps (IsAssigned leaves) c.as_slice-in-Ok.result.now c.in_ok-assignments_of-in-Ok.field-0) c.as_slice-leaves.ensures c.in_ok-assignments_of-in-Ok.ensures in
    let order = subst (IsOrder c.as_slice.result.now) (sym c.as_slice-in-Ok.ensures.value) c.in-Ok.ensures.ordered in
    ordered c.args.net.now c.as_slice.result.now spread c.as_slice-in-Ok.result.now c.in_ok-assignments_of-in-Ok.field-0 order keeps

pub returns-in-Ok-clause-no_loop : goal.returns-in-Ok-clause-no_loop
returns-in-Ok-clause-no_loop c =
    let spread = subst (λ g. IsSpread c.args.net.now (rows_of g)) (sym c.as_slice.ensures.value) c.in_ok-graph.ensures.spread in
    no_loop c.args.net.now c.as_slice.result.now spread c.in-Ok.ensures.no_loop

pub place_of-requires : goal.place_of-requires
place_of-requires c =
    let spread = subst (λ g. IsSpread c.args.net.now (rows_of g)) (sym c.as_slice.ensures.value) c.in_ok-graph.ensures.spread in
    let first = c.in-Err-Loop.ensures.looped c.in-Err-Loop.leaf (ap Err c.in-Err-Loop.field-0-is) in
    let inside = first_inside c.args.net.now c.as_slice.result.now spread c.in-Err-Loop.leaf first in
    let there : c.in-Err-Loop.leaf < length c.as_slice-in-Err-Loop.result.now = subst (λ leaves. c.in-Err-Loop.leaf < length leaves) (sym c.as_slice-in-Err-Loop.ensures) inside in
    subst (λ n. n < length c.as_slice-in-Err-Loop.result.now) (sym c.in-Err-Loop.leaf-is) there

pub returns-in-Err-Loop-clause-looped : goal.returns-in-Err-Loop-clause-looped
returns-in-Err-Loop-clause-looped c = λ place e.
    let spread = subst (λ g. IsSpread c.args.net.now (rows_of g)) (sym c.as_slice.ensures.value) c.in_ok-graph.ensures.spread in
    let first = c.in-Err-Loop.ensures.looped c.in-Err-Loop.leaf (ap Err c.in-Err-Loop.field-0-is) in
    let here = subst (λ leaves. HasPlace leaves c.in-Err-Loop.leaf c.place_of.result) c.as_slice-in-Err-Loop.ensures
    (subst (λ n. HasPlace c.as_slice-in-Err-Loop.result.now n c.place_of.result) c.in-Err-Loop.leaf-is c.place_of.ensures) in
    let same : c.place_of.result ≡ place = cc in
    first_loop c.args.net.now c.as_slice.result.now spread c.in-Err-Loop.leaf place first (subst (HasPlace c.args.net.now.leaves c.in-Err-Loop.leaf) same here)
