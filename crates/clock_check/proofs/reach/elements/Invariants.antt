use Rattle.std.proofs.Common.{◌≡◌}
use Rattle.fir_meaning.specs.Mentions.{elements_behind}
use Rattle.clock_check.specs.Driving.{ways_of}
use Rattle.clock_check.proofs.reach.elements.Given as goal

abbrev pub invariant-loop-number : goal.invariant-loop-number
invariant-loop-number l = ways_of l.next.items ≡ elements_behind (ways_of l.ways) l.number
