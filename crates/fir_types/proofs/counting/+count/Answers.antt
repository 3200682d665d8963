use Rattle.fir_types.proofs.Runs.{counted_on, at_most, element_falls}
use Rattle.fir_types.proofs.counting.+count.Goals as goal

pub leaf_count-loop-inside-preserved : goal.leaf_count-loop-inside-preserved
leaf_count-loop-inside-preserved t c =
    let inside = c.loop-inside.inside.now in
    let at = c.in-Vector.is in
    rw (c.get-inside.ensures) (
      counted_on c.args.typ.now inside _ c.loop-inside.factor c.in-Vector.length c.saturating_mul-factor.result _ at c.loop-inside.invariant.0 c.saturating_mul-factor.ensures,
      at_most _ _ c.saturating_mul-factor.result c.saturating_mul-factor.ensures,
      element_falls inside _ _ _ at c.loop-inside.invariant.2,
    )
