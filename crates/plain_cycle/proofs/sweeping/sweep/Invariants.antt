use Rattle.std.proofs.Common.{◌≡◌, map, take}
use Rattle.bit_words.specs.Values.{integer_of}
use Rattle.plain_cycle.specs.Layouts.{IsLayout}
use Rattle.plain_cycle.specs.Runs.{design_in, state_at, given_at, values_at}
use Rattle.plain_cycle.proofs.Sweeps.{asked_at}
use Rattle.plain_cycle.proofs.sweeping.sweep.Given as goal

abbrev pub invariant-loop-at : goal.invariant-loop-at
invariant-loop-at l = (layout : IsLayout (design_in l.run) l.run.sites.now l.run.declared.now)
    → map (map integer_of) l.after ≡ map (asked_at (design_in l.run) (state_at l.run l.moment) (given_at l.run l.moment) (values_at l.run l.moment)) (take l.at layout.all)
