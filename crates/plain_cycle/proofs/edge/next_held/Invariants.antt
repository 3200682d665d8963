use Rattle.std.proofs.Common.{take}
use Rattle.plain_cycle.specs.Layouts.{IsLayout}
use Rattle.plain_cycle.specs.Runs.{design_in, state_at, values_at}
use Rattle.plain_cycle.proofs.Nexts.{AreHeld}
use Rattle.plain_cycle.proofs.edge.next_held.Given as goal

abbrev pub invariant-loop-at : goal.invariant-loop-at
invariant-loop-at l = (layout : IsLayout (design_in l.run) l.run.sites.now l.run.declared.now) → AreHeld (state_at l.run l.moment) (values_at l.run l.moment) (take l.at layout.all) l.registers l.contents l.captured
