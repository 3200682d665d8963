use Rattle.fir_types.proofs.Runs.{further_in, element_falls}
use Rattle.type_filling.proofs.Runs.{taking_run}
use Rattle.type_filling.proofs.filling.+fill.Goals as goal

pub fill-loop-inside-preserved : goal.fill-loop-inside-preserved
fill-loop-inside-preserved t c =
    let lengths = c.loop-inside.lengths.items in
    let inside = c.loop-inside.inside.now in
    let at = c.in-Vector.is in
    rw (c.in_ok-push.ensures.items, c.get-inside.ensures)
    (further_in lengths inside _ _ _ at c.loop-inside.invariant.0, element_falls inside _ _ _ at c.loop-inside.invariant.1)

pub fill-returns : goal.fill-returns
fill-returns t c =
    taking_run c.loop-inside.lengths.items c.loop-inside.inside.now _ _ _ _ _ c.loop-inside.invariant.0 c.in_ok-shape.ensures c.in_ok-put_within.ensures
