use Rattle.std.proofs.Common.{arith}
use Rattle.std.proofs.lemmas.Grind.{common_steps}
use Rattle.fir_types.proofs.Layers.{flip-bundle}
use Rattle.fir_types.proofs.passivity.+flip.Goals as goal

pub flip_in-returns-in-Bundle : goal.flip_in-returns-in-Bundle
flip_in-returns-in-Bundle t c =
    let e = flip-bundle c.loop-inside.inside.now c.in-Bundle.fields c.in-Bundle.is in
    let h = c.loop-inside.invariant.0 in
    grind (arith, common_steps, e, h)
