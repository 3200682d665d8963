use Rattle.std.proofs.Common.{◌≡◌, map, take}
use Rattle.bit_words.specs.Values.{integer_of}
use Rattle.settling_laws.specs.Sweeps.{asked}
use Rattle.plain_cycle.specs.Layouts.{Located}
use Rattle.plain_cycle.specs.Runs.{IsPart, design_in, state_at, given_at, values_at}
use Rattle.plain_cycle.proofs.sweeping.swept.Given as goal

abbrev pub invariant-loop-leaf : goal.invariant-loop-leaf
invariant-loop-leaf l = (x : Located) → IsPart (design_in l.run) x l.part
    → map integer_of l.values ≡ map (asked (design_in l.run) (state_at l.run l.moment) (given_at l.run l.moment) (values_at l.run l.moment) x.path (x.m, x.c)) (take l.leaf-index l.leaf-items)
