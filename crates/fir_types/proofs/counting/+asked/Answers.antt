use Rattle.std.proofs.Common.{◌<◌, arith}
use Rattle.std.proofs.lemmas.Grind.{common_steps}
use Rattle.fir_types.proofs.Layers.{leaves-bundle}
use Rattle.fir_types.proofs.Runs.{asked-fields, asked-field, asked_on, element_falls}
use Rattle.fir_types.proofs.counting.+asked.Goals as goal

pub has_asked-returns-in-Bundle : goal.has_asked-returns-in-Bundle
has_asked-returns-in-Bundle t c =
    let e = leaves-bundle c.loop-inside.inside.now c.in-Bundle.fields c.in-Bundle.is in
    let h = c.loop-inside.invariant.0 in
    let f = asked-fields c.args.asynchronous c.in-Bundle.fields in
    grind (arith, common_steps, e, h, f)

pub has_asked-loop-inside-preserved : goal.has_asked-loop-inside-preserved
has_asked-loop-inside-preserved t c =
    let inside = c.loop-inside.inside.now in
    let at = c.in-Vector.is in
    let more : 0 < c.in-Vector.length = grind (arith, common_steps) in
    rw (c.get-inside.ensures) (
      asked_on c.args.asynchronous c.args.typ.now inside _ c.in-Vector.length at more c.loop-inside.invariant.0,
      element_falls inside _ _ _ at c.loop-inside.invariant.1,
    )

pub asked_in_fields-returns-then-has_asked : goal.asked_in_fields-returns-then-has_asked
asked_in_fields-returns-then-has_asked t c = grind (arith, common_steps, asked-field)

pub asked_in_fields-loop-field-preserved : goal.asked_in_fields-loop-field-preserved
asked_in_fields-loop-field-preserved t c = grind (arith, common_steps, asked-field)
