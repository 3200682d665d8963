use Rattle.std.proofs.lemmas.Result.{IfOk-weaker}
use Rattle.fir_types.proofs.Runs.{further_in, element_falls, masked_run}
use Rattle.fir_types.proofs.bundles.+mask.Goals as goal

pub mask-loop-inside-preserved : goal.mask-loop-inside-preserved
mask-loop-inside-preserved t c =
    let lengths = c.loop-inside.lengths.items in
    let inside = c.loop-inside.inside.now in
    let at = c.in-Vector.is in
    rw (c.in_ok-push.ensures.items, c.get-inside.ensures)
    (further_in lengths inside _ _ _ at c.loop-inside.invariant.0, element_falls inside _ _ _ at c.loop-inside.invariant.1)

pub mask-returns : goal.mask-returns
mask-returns t c =
    IfOk-weaker c.put_within.result _ _
    (λ whole around. masked_run c.loop-inside.lengths.items c.loop-inside.inside.now c.args.typ.now whole _ c.loop-inside.invariant.0 c.in_ok-shape.ensures around) c.put_within.ensures
