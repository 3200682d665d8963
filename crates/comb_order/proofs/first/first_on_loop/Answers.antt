use Rattle.std.proofs.Common.{ℕ, ◌<◌, length, slice_index, subst, arith, ⊎_elim}
use Rattle.std.proofs.lemmas.Bool.{cases_eq}
use Rattle.comb_order.specs.Graph.{OnLoop}
use Rattle.comb_order.proofs.Steps.{row_there}
use Rattle.comb_order.proofs.Reaches.{ranked_off, loop_inside}
use Rattle.comb_order.proofs.first.first_on_loop.Goals as goal

pub loop-vertex-preserved-then-is_below : goal.loop-vertex-preserved-then-is_below
loop-vertex-preserved-then-is_below c =
    let g = c.args.reads.now in
    let v = c.loop-vertex.vertex in
    let row = c.index-reads-vertex.result in
    let there = row_there g v row (omega arith) c.index-reads-vertex.is in
    let below = subst (λ r. (k : ℕ) → k < length r → slice_index c.args.ranks.now (slice_index r k) < slice_index c.args.ranks.now c.loop-vertex.vertex) c.as_slice.ensures.value (c.is_below.ensures c.if-is_below.true) in
    let off = ranked_off g c.args.ranks.now v row (c.never_rises-falls.ensures c.if-falls.true) there below in
    λ y lt l. ⊎_elim (λ q. off (subst (OnLoop g) q l)) (λ n. c.loop-vertex.invariant y (omega arith) l) (cases_eq y v)

pub returns-clause-none : goal.returns-clause-none
returns-clause-none c = λ x l. c.loop-vertex.invariant x (omega (arith, loop_inside c.args.reads.now x l, c.loop-vertex-test.false)) l
