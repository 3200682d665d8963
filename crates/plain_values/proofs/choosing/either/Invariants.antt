use Rattle.std.proofs.Common.{◌≡◌, map, take, zip}
use Rattle.fir_meaning.specs.Values.{one_of_two}
use Rattle.plain_values.proofs.choosing.either.Given as goal

abbrev pub invariant-loop-at : goal.invariant-loop-at
invariant-loop-at l = l.values ≡ map (λ both. one_of_two l.first both.0 both.1) (zip (take l.at l.firsts) (take l.at l.seconds))
