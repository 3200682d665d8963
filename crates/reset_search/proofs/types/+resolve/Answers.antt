use Rattle.std.proofs.Common.{arith}
use Rattle.std.proofs.lemmas.Grind.{common_steps}
use Rattle.std.proofs.lemmas.Result.{IfOk-weaker}
use Rattle.fir_types.proofs.Runs.{further_in, element_falls}
use Rattle.reset_search.specs.Rows.{marked}
use Rattle.reset_search.proofs.Resolving.{becomes_run, count_run}
use Rattle.reset_search.proofs.types.+resolve.Goals as goal

pub resolve_type-loop-inside-preserved : goal.resolve_type-loop-inside-preserved
resolve_type-loop-inside-preserved t c =
    let lengths = c.loop-inside.lengths.items in
    let inside = c.loop-inside.inside.now in
    let at = c.in-Vector.is in
    rw (c.in_ok-push.ensures.items, c.get-inside.ensures)
    (further_in lengths inside _ _ _ at c.loop-inside.invariant.0, element_falls inside _ _ _ at c.loop-inside.invariant.1)

pub resolve_type-returns-clause-typ : goal.resolve_type-returns-clause-typ
resolve_type-returns-clause-typ t c =
    IfOk-weaker c.put_within.result _ _
    (λ whole around. becomes_run (marked c.args.marks.now.keys.keys) c.loop-inside.lengths.items c.loop-inside.inside.now c.args.typ.now whole _ _ c.loop-inside.invariant.0 c.in_ok-shape.ensures.shape around)
    c.put_within.ensures

pub resolve_type-returns-clause-next : goal.resolve_type-returns-clause-next
resolve_type-returns-clause-next t c =
    let e = count_run (marked c.args.marks.now.keys.keys) c.loop-inside.lengths.items c.loop-inside.inside.now c.args.typ.now c.loop-inside.invariant.0 in
    grind (arith, common_steps, e)
