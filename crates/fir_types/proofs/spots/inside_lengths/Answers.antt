use Rattle.std.proofs.Common.{◌∙◌, sym}
use Rattle.fir_types.proofs.Runs.{element_falls}
use Rattle.fir_types.proofs.SpotLayers.{spots-vector, masks-vector}
use Rattle.fir_types.proofs.spots.inside_lengths.Goals as goal

pub loop-inside-preserved : goal.loop-inside-preserved
loop-inside-preserved c =
    let inside = c.loop-inside.inside.now in
    let at = c.in-Vector.is in
    rw (c.get-inside.ensures) (
      sym (spots-vector inside _ _ at) ∙ c.loop-inside.invariant.0,
      sym (masks-vector inside _ _ at) ∙ c.loop-inside.invariant.1,
      element_falls inside _ _ _ at c.loop-inside.invariant.2,
    )
