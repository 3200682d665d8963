use Rattle.std.proofs.Common.{◌∙◌, sym}
use Rattle.fir_types.proofs.Runs.{element_falls}
use Rattle.width_rules.proofs.Spots.{node-vector}
use Rattle.width_rules.proofs.sizes.inside_node.Goals as goal

pub loop-inside-preserved : goal.loop-inside-preserved
loop-inside-preserved c =
    let inside = c.loop-inside.inside.now in
    let at = c.in-Vector.is in
    rw (c.get-inside.ensures) (
      sym (node-vector inside _ _ at) ∙ c.loop-inside.invariant.0,
      element_falls inside _ _ _ at c.loop-inside.invariant.1,
    )
