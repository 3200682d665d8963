use Rattle.std.proofs.Common.{length, ◌-◌}
use Rattle.fir_layout.proofs.Layouts.{LaidTo}
use Rattle.fir_layout.proofs.layout.walk.Given as goal

abbrev pub invariant-loop-start : goal.invariant-loop-start
invariant-loop-start l = LaidTo l.bytes l.tokens l.start l.next l.laid.items l.blocks.items

abbrev pub decreases-loop-start : goal.decreases-loop-start
decreases-loop-start l = length l.bytes - l.start
