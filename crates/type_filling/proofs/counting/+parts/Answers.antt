use Rattle.fir_types.proofs.Runs.{element_falls}
use Rattle.type_filling.proofs.counting.+parts.Goals as goal

pub parts_of-loop-inside-preserved : goal.parts_of-loop-inside-preserved
parts_of-loop-inside-preserved t c = rw (c.get-inside.ensures) (element_falls c.loop-inside.inside.now _ _ _ c.in-Vector.is c.loop-inside.invariant)
